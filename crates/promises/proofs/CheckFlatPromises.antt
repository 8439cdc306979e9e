-- The promises of check_flat: by the cases of reading both files, of the walk over the entries and of the goals pending at its end, each of which the rules decide.
-- Assumes nothing.
use Prim.Native.Nat.{ℕ, ◌+◌, ◌≤◌}
use native.Mathlib.Omega.{arith}
use mathlib.Core.Path.{◌≡◌, refl, sym, subst, ap, ◌∙◌}
use mathlib.Core.List.{List, [], ◌∷◌}
use lib.ListN.{length}
use Rattle.format.specs.declared.values.Goal.{Goal}
use Rattle.format.specs.declared.refusals.Cause.{Cause}
use Rattle.format.specs.declared.refusals.Cause.TheVariants.{EntryWrong, GoalsPending}
use Rattle.format.specs.Refusals.{number}
use Rattle.format.specs.Results.{Result, gives, refused, and_then}
use Rattle.format.proofs.ResultLaws.{number_positive, same_place, same_cause, never_gives}
use Rattle.rule_set.specs.Different.{different}
use Rattle.tables.specs.Tables.{Table, HasRule, UniqueRules}
use Rattle.tables.specs.ReadTables.{read_table}
use Rattle.tables.proofs.ReadsTable.{reads_unique_rules}
use Rattle.files.specs.Derivations.{Derivation, Entry, use_entry, open_entry, read_flat, entries_place}
use Rattle.files.specs.Standing.{EntriesStand}
use Rattle.files.proofs.RefusedFiles.{Flat-refused}
use Rattle.files.proofs.WhatStands.{flat_stands}
use Rattle.hitac.specs.Counts.{uses, every_use}
use Rattle.hitac.specs.Derives.{Derives}
use Rattle.hitac.specs.FirstWrong.{entries_size, FirstWrong}
use Rattle.hitac.specs.FlatWalk.{flat_walk}
use Rattle.hitac.specs.Forest.{leaves}
use Rattle.hitac.specs.UsedRules.{flat_rules}
use Rattle.hitac.proofs.FlatWalks.{flat_walk↔derives, flat_walk↔first_wrong, flat_walk_cause}
use Rattle.hitac.proofs.StopPlaces.{flat_walk_place}
use Rattle.answers.specs.declared.Answer.{Answer}
use Rattle.answers.specs.Answers as answer
use Rattle.entries.specs.LentSpace.{counted_answer}
use Rattle.entries.specs.CheckFlat.{none_pending, right, flat_counts, check_flat_outcome, check_flat_work, check_flat}
use Rattle.promises.specs.Right.{Right}
use Rattle.promises.specs.CheckFlatPromises.{CheckFlat-right, CheckFlat-counts, RefusesFlat, CheckFlat-refuses, CheckFlatRefuses, CheckFlat-ends}
use Rattle.promises.proofs.Used.{flat_set}
use Rattle.promises.proofs.LentLaws as lent
use Rattle.promises.proofs.LentLaws.{ends_checked}
use Rattle.promises.proofs.OutcomeLaws.{comes, counted_ends}

abbrev A : (t f : List ℕ) → Answer
A t f = counted_answer (check_flat_outcome t f)

-- the answer, once the work space is long enough
answered : (t f w : List ℕ) → check_flat_work ≤ length w → (check_flat t f w).answer ≡ A t f
unfolding check_flat
answered t f w h = lent.answered check_flat_work w (check_flat_outcome t f) h

-- what the answer is, by the cases of both files
table_refuses : (t f : List ℕ) {c : Cause} {q : ℕ} → read_table t ≡ refused c q → A t f ≡ answer.refusal (number c) 1 q 0
unfolding check_flat_outcome
table_refuses t f e = rw e

flat_refuses : (t f : List ℕ) {T : Table} {c : Cause} {q : ℕ} → read_table t ≡ gives T → read_flat f ≡ refused c q → A t f ≡ answer.refusal (number c) 2 q 0
unfolding check_flat_outcome
flat_refuses t f e g = rw (e, g)

module _ (t f : List ℕ) (T : Table) (d : Derivation) (e : read_table t ≡ gives T) (g : read_flat f ≡ gives d) where
  abbrev pub walked : Result (List Goal)
  walked = flat_walk T (entries_place d) d.roots d.entries

  walk_refuses : {c : Cause} {q : ℕ} → walked ≡ refused c q → A t f ≡ answer.refusal (number c) 2 q 0
  unfolding check_flat_outcome right and_then
  walk_refuses x = rw (e, g, x)

  wrong_at : {q : ℕ} → walked ≡ refused EntryWrong q → A t f ≡ answer.refusal 27 2 q 0
  unfolding number
  wrong_at x = walk_refuses x

  none_left : walked ≡ gives [] → A t f ≡ answer.counted 0 (uses every_use d.entries) (length (leaves d.entries)) (different (flat_rules T d.entries))
  unfolding check_flat_outcome right and_then none_pending flat_counts
  none_left x = rw (e, g, x)

  some_left : (γ : Goal) (k : List Goal) → walked ≡ gives (γ ∷ k) → A t f ≡ answer.refusal 27 2 (length f) 0
  unfolding check_flat_outcome right and_then none_pending number
  some_left γ k x = rw (e, g, x)

  unique : UniqueRules T
  unique = reads_unique_rules t T e

  still_pending : (k : List Goal) → walked ≡ gives k → (k ≡ [] → ⊥) → A t f ≡ answer.refusal 27 2 (length f) 0
  still_pending [] x n = absurd (n refl)
  still_pending (γ ∷ k) x n = some_left γ k x

  refuses : (w : List ℕ) → check_flat_work ≤ length w → RefusesFlat t f w T d
  refuses w h = record {
    wrong = λ q x. answered t f w h ∙ wrong_at ((flat_walk↔first_wrong T unique (entries_place d) d.roots d.entries q).1 x);
    pending = λ k x n. answered t f w h ∙ still_pending k ((flat_walk↔derives T unique (entries_place d) d.roots d.entries k).1 x) n;
  }

pub check_flat_refuses : CheckFlat-refuses
check_flat_refuses t f w T d h e g = refuses t f T d e g w h

positive : (c : Cause) (i q k : ℕ) (a : Answer) → a ≡ answer.refusal (number c) i q k → a.number ≡ 0 → ⊥
positive c i q k a e z = omega (arith, number_positive c, ap (λ (b : Answer). b.number) e)

-- answer 0: by the cases in turn
module _ (t f : List ℕ) where
  walk_case : (T : Table) (d : Derivation) → (e : read_table t ≡ gives T) → (g : read_flat f ≡ gives d) → (r : Result (List Goal)) → flat_walk T (entries_place d) d.roots d.entries ≡ r → (A t f).number ≡ 0 → Right t f
  walk_case T d e g (gives []) x z = record {
    the_table = T;
    the_derivation = d;
    table_reads = e;
    flat_reads = g;
    derives = (flat_walk↔derives T (unique t f T d e g) (entries_place d) d.roots d.entries []).0 x;
  }
  walk_case T d e g (gives (γ ∷ k)) x z = absurd (omega (arith, z, ap (λ (b : Answer). b.number) (some_left t f T d e g γ k x)))
  walk_case T d e g (refused c q) x z = absurd (positive c 2 q 0 (A t f) (walk_refuses t f T d e g x) z)

  flat_case : (T : Table) → read_table t ≡ gives T → (r : Result Derivation) → read_flat f ≡ r → (A t f).number ≡ 0 → Right t f
  flat_case T e (gives d) g z = walk_case T d e g (flat_walk T (entries_place d) d.roots d.entries) refl z
  flat_case T e (refused c q) g z = absurd (positive c 2 q 0 (A t f) (flat_refuses t f e g) z)

  table_case : (r : Result Table) → read_table t ≡ r → (A t f).number ≡ 0 → Right t f
  table_case (gives T) e z = flat_case T e (read_flat f) refl z
  table_case (refused c q) e z = absurd (positive c 1 q 0 (A t f) (table_refuses t f e) z)

  right_answer : (r : Right t f)
      → A t f ≡ answer.counted 0 (uses every_use r.the_derivation.entries) (length (leaves r.the_derivation.entries)) (different (flat_rules r.the_table r.the_derivation.entries))
  right_answer r =
      let T = r.the_table in
      let d = r.the_derivation in
      let u = unique t f T d r.table_reads r.flat_reads in
      none_left t f T d r.table_reads r.flat_reads ((flat_walk↔derives T u (entries_place d) d.roots d.entries []).1 r.derives)

pub check_flat-right : CheckFlat-right
check_flat-right t f w h = (
  (λ z. table_case t f (read_table t) refl (sym (ap (λ (a : Answer). a.number) (answered t f w h)) ∙ z)),
  (λ r. ap (λ (b : Answer). b.number) (answered t f w h ∙ right_answer t f r)),
)

-- the same of the entry
pub check_flat_answers : (t f w : List ℕ) → check_flat_work ≤ length w → (r : Right t f)
    → (check_flat t f w).answer ≡ answer.counted 0 (uses every_use r.the_derivation.entries) (length (leaves r.the_derivation.entries)) (different (flat_rules r.the_table r.the_derivation.entries))
check_flat_answers t f w h r = answered t f w h ∙ right_answer t f r

pub check_flat-counts : CheckFlat-counts
check_flat-counts t f w h r =
    (different (flat_rules r.the_table r.the_derivation.entries), flat_set t r.the_table r.table_reads r.the_derivation, check_flat_answers t f w h r)

-- the entries' fields fill the file
entries_fill : (s : List ℕ) (es : List Entry) (at end : ℕ) → EntriesStand s at end es → at + entries_size es ≡ end
unfolding EntriesStand
entries_fill s [] at end x = omega (arith, x)
entries_fill s (use_entry a γ ∷ es) at end x = omega (arith, entries_fill s es (at + 7) end x.3)
entries_fill s (open_entry γ ∷ es) at end x = omega (arith, entries_fill s es (at + 5) end x.2)

-- demand 1, for every entry that checks a derivation: its own refusals are 27, at an entry or at the end
module _ {B : Type 0} (f : List ℕ) (T : Table) (d : Derivation) (g : read_flat f ≡ gives d) (v : B) where
  stopped_so : (c : Cause) (q : ℕ) → flat_walk T (entries_place d) d.roots d.entries ≡ refused c q → right T d (length f) v ≡ refused c q
  unfolding right and_then
  stopped_so c q x = rw x

  over_so : flat_walk T (entries_place d) d.roots d.entries ≡ gives [] → right T d (length f) v ≡ gives v
  unfolding right and_then none_pending
  over_so x = rw x

  pending_so : (γ : Goal) (k : List Goal) → flat_walk T (entries_place d) d.roots d.entries ≡ gives (γ ∷ k) → right T d (length f) v ≡ refused GoalsPending (length f)
  unfolding right and_then none_pending
  pending_so γ k x = rw x

  numbers : (number EntryWrong ≡ 27) × (number GoalsPending ≡ 27)
  unfolding number
  numbers = (refl, refl)

  moved : (b c : Cause) (i q : ℕ) → ◌≡◌ {A = Result B} (refused b i) (refused c q) → number b ≡ 27 → i ≤ length f → CheckFlatRefuses f (number c) q
  moved b c i q e n l = (ap number (sym (same_cause e)) ∙ n, subst (λ (j : ℕ). j ≤ length f) (same_place e) l)

  pub right_refuses : (r : Result (List Goal)) → flat_walk T (entries_place d) d.roots d.entries ≡ r → (c : Cause) (q : ℕ) → right T d (length f) v ≡ refused c q → CheckFlatRefuses f (number c) q
  right_refuses (gives []) x c q h = never_gives (sym h ∙ over_so x)
  right_refuses (gives (γ ∷ k)) x c q h = moved GoalsPending c (length f) q (sym (pending_so γ k x) ∙ h) numbers.1 (omega arith)
  right_refuses (refused b i) x c q h =
      moved b c i q
      (sym (stopped_so b i x) ∙ h)
      (ap number (flat_walk_cause T (entries_place d) d.roots d.entries x) ∙ numbers.0)
      (omega (arith, flat_walk_place T (entries_place d) d.roots d.entries x, entries_fill f d.entries (entries_place d) (length f) (flat_stands f d g).entries_stand))

pub check_flat_ends : CheckFlat-ends
unfolding check_flat check_flat_outcome
check_flat_ends t f w =
    ends_checked check_flat_work w (check_flat_outcome t f) t f (CheckFlatRefuses f)
    (counted_ends
    (comes t f (CheckFlatRefuses f) (read_flat f) (λ T d. right T d (length f) (flat_counts T d)) (λ c q e. Flat-refused f c q e)
    (λ T d e g c q h. right_refuses f T d g (flat_counts T d) (flat_walk T (entries_place d) d.roots d.entries) refl c q h)))
