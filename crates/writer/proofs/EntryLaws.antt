-- The writer's entry: one law for each way that it ends, by what the files read as, by the checker's answer and by the room for the result.
-- Assumes nothing.
use Rattle.std.specs.Prelude.{Ok, Err}
use Prim.Native.Nat.{ℕ, ◌+◌, ◌≤◌, ◌<◌}
use mathlib.Core.Path.{◌≡◌, refl, sym, ap, ◌∙◌}
use mathlib.Core.List.{List, [], ◌∷◌}
use native.Mathlib.Omega.{arith}
use lib.ListN.{length}
use borrow.Author.Tests.{lt-ltb, le-ltb}
use Rattle.format.specs.declared.values.Goal.{Goal}
use Rattle.format.specs.Limits.{most_entries}
use Rattle.format.specs.declared.refusals.Cause.TheVariants.{EntriesTooMany}
use Rattle.format.specs.declared.refusals.Refusal.{Refusal}
use Rattle.format.specs.Refusals.{number}
use Rattle.format.specs.Results.{Result, gives, refused, and_then, told, refused_at}
use Rattle.format.proofs.ResultLaws.{same_refusal, same_answered}
use Rattle.tables.specs.Tables.{Table}
use Rattle.tables.specs.Standing.{TableStands}
use Rattle.files.specs.declared.flats.FlatParts.{FlatParts}
use Rattle.files.specs.Proofs.{proof_bytes}
use Rattle.files.specs.Derivations.{Derivation, entries_place}
use Rattle.hitac.specs.Forest.{leaves}
use Rattle.hitac.specs.Counts.{uses, every_use}
use Rattle.hitac.specs.FlatWalk.{flat_walk}
use Rattle.hitac.proofs.FlatBounds.{entries_count}
use Rattle.answers.specs.declared.Answer.{Answer}
use Rattle.answers.specs.Answers.{refusal}
use Rattle.entries.specs.Outcomes.{in_file, done, other_file}
use Rattle.entries.specs.LentSpace.{Written, write_out}
use Rattle.entries.specs.Left.{kept, left_in}
use Rattle.entries.specs.CheckFlat.{none_pending, right, flat_counts, written_proof, written_file, write_outcome}
use Rattle.derivation.specs.CheckedEntries.{DerivationAt, FilesStand, FilesRefused, table_refused, flat_refused, counted_of, checked_entries}
use Rattle.derivation.specs.declared.check.Counted.{Counted}
use Rattle.derivation.proofs.CheckLaws.{parts_hold}
use Rattle.writer.specs.Sizes.{proof_size}
use Rattle.writer.specs.Right.{Right, proof_of}
use Rattle.writer.specs.Left.{written_entries}
use Rattle.writer.proofs.SizeLaws.{proof_size_is}

module _ (T : Table) (d : Derivation) (end : ℕ) (out : List ℕ) where
  abbrev walked : Result (List Goal)
  walked = flat_walk T (entries_place d) d.roots d.entries

  abbrev proof : List ℕ
  proof = proof_bytes (written_proof T d)

  -- 28, and otherwise the walk
  pub too_many : most_entries < length d.entries → kept (refusal (number EntriesTooMany) other_file 0 0) out ≡ written_entries T d end out
  unfolding written_entries written_file write_out
  too_many h = rw (lt-ltb most_entries (length d.entries) h)

  few_enough : length d.entries ≤ most_entries → left_in out (in_file other_file (right T d end proof) done) ≡ written_entries T d end out
  unfolding written_entries written_file
  few_enough h = rw (le-ltb most_entries (length d.entries) h)

  -- the check's success: nothing is pending
  pub none_left : (c : Counted) → checked_entries T d end ≡ Ok c → walked ≡ gives []
  unfolding checked_entries right and_then none_pending told
  none_left c e = go walked e
    where
      go : (w : Result (List Goal)) → told refused_at (λ k. Ok (counted_of k)) (and_then w (none_pending end (flat_counts T d))) ≡ Ok c → w ≡ gives []
      go (gives []) e = refl
      go (gives (γ ∷ g)) e = absurd (let z : ◌≡◌ {A = ℕ} 0 1 = cc in omega arith)
      go (refused k p) e = absurd (let z : ◌≡◌ {A = ℕ} 0 1 = cc in omega arith)

  -- and these are the counts
  pub counts_are : (c : Counted) → checked_entries T d end ≡ Ok c → (c.uses ≡ uses every_use d.entries) × (c.opens ≡ length (leaves d.entries))
  unfolding checked_entries right and_then none_pending told flat_counts
  counts_are c e = go walked e
    where
      go : (w : Result (List Goal)) → told refused_at (λ k. Ok (counted_of k)) (and_then w (none_pending end (flat_counts T d))) ≡ Ok c → (c.uses ≡ uses every_use d.entries) × (c.opens ≡ length (leaves d.entries))
      go (gives []) e = let s = sym (same_answered e) in (ap (λ (x : Counted). x.uses) s, ap (λ (x : Counted). x.opens) s)
      go (gives (γ ∷ g)) e = absurd (let z : ◌≡◌ {A = ℕ} 0 1 = cc in omega arith)
      go (refused k p) e = absurd (let z : ◌≡◌ {A = ℕ} 0 1 = cc in omega arith)

  -- its refusal is the writer's: 27
  pub wrong : (f : Refusal) → checked_entries T d end ≡ Err f → length d.entries ≤ most_entries → kept (refusal (number f.cause) other_file f.place 0) out ≡ written_entries T d end out
  unfolding checked_entries right and_then none_pending write_out told
  wrong f e h = go walked e ∙ few_enough h
    where
      go : (w : Result (List Goal)) → told refused_at (λ k. Ok (counted_of k)) (and_then w (none_pending end (flat_counts T d))) ≡ Err f
          → kept (refusal (number f.cause) other_file f.place 0) out ≡ left_in out (in_file other_file (and_then w (none_pending end proof)) done)
      go (gives []) e = absurd (let z : ◌≡◌ {A = ℕ} 0 1 = cc in omega arith)
      go (gives (γ ∷ g)) e = ap (λ (x : Refusal). kept (refusal (number x.cause) other_file x.place 0) out) (sym (same_refusal e))
      go (refused k p) e = ap (λ (x : Refusal). kept (refusal (number x.cause) other_file x.place 0) out) (sym (same_refusal e))

  pub then_written : walked ≡ gives [] → length d.entries ≤ most_entries → left_in out (done proof) ≡ written_entries T d end out
  then_written e h = unfold right and_then none_pending in rw e at (few_enough h)

-- the entries of a flat file that stands, with the parts that the code keeps
module _ (table : List ℕ) (rules : ℕ) (flat : List ℕ) (parts : FlatParts) (T : Table) (d : Derivation) (ts : TableStands table rules T) (at : DerivationAt flat parts d) (out : List ℕ) where
  counted : length d.entries ≡ parts.uses + parts.opens
  counted = let p = parts_hold flat parts d at in omega (arith, entries_count d.entries, p.uses_are, p.opens_are)

  pub ends_28 : most_entries < parts.uses + parts.opens → kept (refusal (number EntriesTooMany) other_file 0 0) out ≡ written_entries T d (length flat) out
  ends_28 h = too_many T d (length flat) out (omega (arith, counted))

  module _ (few : parts.uses + parts.opens ≤ most_entries) where
    pub few_entries : length d.entries ≤ most_entries
    few_entries = omega (arith, counted)

    pub ends_27 : (f : Refusal) → checked_entries T d (length flat) ≡ Err f → kept (refusal (number f.cause) other_file f.place 0) out ≡ written_entries T d (length flat) out
    ends_27 f e = wrong T d (length flat) out f e few_entries

    module _ (c : Counted) (checked : checked_entries T d (length flat) ≡ Ok c) where
      abbrev pub right_file : Right flat parts.roots
      right_file =
          record {
            table = T;
            derivation = d;
            flat = at.stands;
            count = (parts_hold flat parts d at).roots_are;
            right = none_left T d (length flat) out c checked;
            few = few_entries;
          }

      -- the size that is computed from the counts is the length of the proof file
      pub right-size : (size : ℕ) → size ≡ proof_size parts.roots c.uses c.opens → size ≡ length (proof_of right_file)
      right-size size e = let k = counts_are T d (length flat) out c checked in e ∙ proof_size_is right_file c.uses c.opens (sym k.0) (sym k.1)

      pub ends_right : left_in out (done (proof_of right_file)) ≡ written_entries T d (length flat) out
      ends_right = then_written T d (length flat) out (none_left T d (length flat) out c checked) few_entries

-- the two files
module _ (table flat out : List ℕ) where
  abbrev within : Written
  within = left_in out (write_outcome table flat)

  -- one of them was refused
  pub refused_files : (a : Answer) → FilesRefused table flat a → kept a out ≡ within
  unfolding write_outcome write_out
  refused_files a (table_refused f e is) = rw (is, e)
  refused_files a (flat_refused T reads f e is) = rw (is, reads, e)

  -- both were read
  pub both_read : {work : List ℕ} {rules : ℕ} {parts : FlatParts} (s : FilesStand table flat work rules parts) → written_entries s.the_table s.derivation (length flat) out ≡ within
  unfolding write_outcome written_entries
  both_read s = rw (s.reads, s.flat_reads)
