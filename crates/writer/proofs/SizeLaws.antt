-- The sizes from the counts: those of the term and of the proof file that are written for a right derivation.
-- Assumes nothing.
use Prim.Native.Nat.{ℕ, ◌+◌, ◌*◌, ◌-◌, ◌≤◌, ◌<◌}
use mathlib.Core.Path.{◌≡◌, refl, ◌∙◌}
use mathlib.Core.Bool.{Bool, true, false, cond}
use mathlib.Core.List.{List, [], ◌∷◌}
use native.Mathlib.Omega.{arith}
use lib.Dec.{eqb}
use lib.ListN.{length}
use borrow.Author.Tests.{eq-eqb, ne_eqb}
use Rattle.format.specs.Limits.{most_opens}
use Rattle.format.specs.Terms.{size}
use Rattle.files.specs.Proofs.{term_place, remaining_place}
use Rattle.files.specs.Derivations.{Entry}
use Rattle.files.proofs.Sizes.{length-proof_bytes}
use Rattle.hitac.specs.Forest.{leaves}
use Rattle.hitac.specs.Counts.{uses, every_use}
use Rattle.hitac.specs.Write.{tree_terms, written}
use Rattle.hitac.proofs.FlatBounds.{entries_count}
use Rattle.hitac.proofs.Written as hitac
use Rattle.entries.specs.CheckFlat.{written_proof}
use Rattle.hitac.proofs.EntryCounts.{opens_counted}
use Rattle.writer.specs.Sizes.{term_size, proof_size}
use Rattle.writer.specs.Right.{Right, proof_of}

pub no_entries-size : (u o : ℕ) → u + o ≡ 0 → 3 ≡ term_size u o
unfolding term_size
no_entries-size u o z = rw (eq-eqb (u + o) 0 z)

pub some_entries-size : (u o : ℕ) → (u + o ≡ 0 → ⊥) → 8 * u + 6 * o - 3 ≡ term_size u o
unfolding term_size
some_entries-size u o z = rw (ne_eqb (u + o) 0 z)

-- at most 8 bytes for each use and 6 for each open, or 3
pub term_size_most : (u o : ℕ) → term_size u o ≤ 3 + 8 * u + 6 * o
unfolding term_size
term_size_most u o = go (eqb (u + o) 0)
  where
    go : (b : Bool) → cond b 3 (8 * u + 6 * o - 3) ≤ 3 + 8 * u + 6 * o
    go true = omega arith
    go false = omega arith

module _ {s : List ℕ} {n : ℕ} (d : Right s n) where
  abbrev es : List Entry
  es = d.derivation.entries

  pub few_leaves : length (leaves es) ≤ most_opens
  few_leaves = omega (arith, d.flat.few_opens, opens_counted es)

  -- the size of the term, by whether there are entries
  pub term_size_is : size (written d.table es) ≡ term_size (uses every_use es) (length (leaves es))
  term_size_is = go es refl
    where
      go : (fs : List Entry) → fs ≡ es → size (written d.table es) ≡ term_size (uses every_use es) (length (leaves es))
      go [] e = unfold size written tree_terms term_size in rw (← e)
      go (f ∷ fs) e =
          let some : 0 < length es = rw (← e) (omega arith) in
          let counted = entries_count es in
          let sized = hitac.written-size d.table _ d.derivation.roots es d.right few_leaves some in
          let u = uses every_use es in
          let o = length (leaves es) in
          let all : size (written d.table es) ≡ 8 * u + 6 * o - 3 = omega (arith, sized) in
          all ∙ some_entries-size u o (λ z. omega (arith, z, counted, some))

  pub term_small : size (written d.table es) ≤ 16387
  term_small = omega (arith, term_size_is, term_size_most (uses every_use es) (length (leaves es)), entries_count es, d.few)

  -- the size of the file
  pub proof_length : length (proof_of d) ≡ 3 + n * 2 + size (written d.table es) + (3 + length (leaves es) * 2)
  unfolding written_proof remaining_place term_place
  proof_length = omega (arith, length-proof_bytes (written_proof d.table d.derivation), d.count)

  pub proof_size_is : (u o : ℕ) → uses every_use es ≡ u → length (leaves es) ≡ o → proof_size n u o ≡ length (proof_of d)
  unfolding proof_size
  proof_size_is u o e f =
      let t : size (written d.table es) ≡ term_size u o = rw (← e, ← f) term_size_is in
      omega (arith, proof_length)
