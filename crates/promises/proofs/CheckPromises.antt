-- The promises of check: by the cases of reading both files, of the walk and of the comparison of the remaining goals, each of which the rules decide.
-- Assumes nothing.
use Prim.Native.Nat.{ℕ, ◌+◌, ◌≤◌, ◌<◌}
use native.Mathlib.Omega.{arith}
use mathlib.Core.Path.{◌≡◌, refl, sym, subst, ap, ◌∙◌}
use mathlib.Core.Bool.{Bool, true, false, false≢true}
use mathlib.Core.Logic.{◌⊎◌, inl, inr, ◌↔◌}
use mathlib.Core.List.{List, [], ◌∷◌}
use lib.ListN.{length}
use Rattle.format.specs.declared.values.Goal.{Goal}
use Rattle.format.specs.declared.refusals.Cause.{Cause}
use Rattle.format.specs.declared.refusals.Cause.TheVariants.{RemainingDiffer}
use Rattle.format.specs.Refusals.{number}
use Rattle.format.specs.Results.{Result, gives, refused, and_then}
use Rattle.format.specs.Terms.{size, fields, Hiproof}
use Rattle.format.proofs.ResultLaws.{number_positive, same_value, same_place, same_cause, never_gives}
use Rattle.rule_set.specs.Different.{different}
use Rattle.tables.specs.Tables.{Table, HasRule, UniqueRules}
use Rattle.tables.specs.ReadTables.{read_table}
use Rattle.tables.proofs.ReadsTable.{reads_unique_rules}
use Rattle.files.specs.Proofs.{Proof, read_proof_fields, term_place, remaining_place, empty_proof, read_proof}
use Rattle.files.proofs.EmptyProof.{read_itself}
use Rattle.files.proofs.ReadsProof.{reads_none}
use Rattle.files.proofs.RefusedFiles.{Proof-refused}
use Rattle.files.proofs.WhatStands.{proof_stands, read_stands}
use Rattle.hitac.specs.Hiproofs.{atomics}
use Rattle.hitac.specs.Validates.{AtMost256, Validates}
use Rattle.hitac.specs.Stops.{Stops, StopNumber}
use Rattle.hitac.specs.Walk.{on_no_goal, walk}
use Rattle.hitac.specs.UsedRules.{walked_rules}
use Rattle.hitac.proofs.WalkValidates.{walk↔validates}
use Rattle.hitac.proofs.WalkStops.{walk↔stops}
use Rattle.hitac.proofs.StopReasons.{reached_stops, stops_reached}
use Rattle.hitac.proofs.StopPlaces.{walk-number, walk_place}
use Rattle.answers.specs.declared.Answer.{Answer}
use Rattle.answers.specs.Answers as answer
use Rattle.entries.specs.LentSpace.{counted_answer}
use Rattle.entries.specs.Check.{same_goals, remaining_are, checked, on_proof, proof_counts, check_work, check}
use Rattle.entries.proofs.SameGoals.{same_equal, equal_same}
use Rattle.promises.specs.Accepted.{Accepted}
use Rattle.promises.specs.CheckPromises.{Check-accepts, Check-counts, Refuses, Check-refuses, CheckRefuses, Check-ends}
use Rattle.promises.proofs.Used.{used-set}
use Rattle.promises.proofs.LentLaws as lent
use Rattle.promises.proofs.LentLaws.{ends_checked}
use Rattle.promises.proofs.OutcomeLaws.{Comes, comes, counted_ends}

-- the answer, once the work space is long enough
answered : (t p w : List ℕ) → check_work ≤ length w → (check t p w).answer ≡ counted_answer (on_proof proof_counts t p)
unfolding check
answered t p w h = lent.answered check_work w (on_proof proof_counts t p) h

-- what the answer is, by the cases of both files
table_refuses : (t p : List ℕ) {c : Cause} {q : ℕ} → read_table t ≡ refused c q → counted_answer (on_proof proof_counts t p) ≡ answer.refusal (number c) 1 q 0
unfolding on_proof
table_refuses t p e = rw e

proof_refuses : (t p : List ℕ) {T : Table} {c : Cause} {q : ℕ} → read_table t ≡ gives T → read_proof p ≡ refused c q → counted_answer (on_proof proof_counts t p) ≡ answer.refusal (number c) 2 q 0
unfolding on_proof
proof_refuses t p e f = rw (e, f)

module _ (t p : List ℕ) (T : Table) (x : Proof) (e : read_table t ≡ gives T) (f : read_proof p ≡ gives x) where
  abbrev walked : Result (List Goal)
  walked = walk T x.term (term_place x) x.goals

  walk_refuses : {c : Cause} {q : ℕ} → walked ≡ refused c q → counted_answer (on_proof proof_counts t p) ≡ answer.refusal (number c) 2 q 0
  unfolding on_proof checked and_then
  walk_refuses g = rw (e, f, g)

  accepts : (h : List Goal) → walked ≡ gives h → same_goals h x.remaining ≡ true → counted_answer (on_proof proof_counts t p) ≡ answer.counted (fields x.term) (atomics x.term) (length x.remaining) (different (walked_rules T x.term x.goals))
  unfolding on_proof checked and_then remaining_are proof_counts
  accepts h g s = rw (e, f, g, s)

  differs : (h : List Goal) → walked ≡ gives h → same_goals h x.remaining ≡ false → counted_answer (on_proof proof_counts t p) ≡ answer.refusal 21 2 (remaining_place x) 0
  unfolding on_proof checked and_then remaining_are number
  differs h g s = rw (e, f, g, s)

  unique : UniqueRules T
  unique = reads_unique_rules t T e

  hiproof : Hiproof x.term
  hiproof = (read_stands p x f).hiproof

  validated : (h : List Goal) → (walked ≡ gives h) ↔ Validates (HasRule T) AtMost256 x.term x.goals h
  validated h = walk↔validates T unique x.term (term_place x) x.goals h

  stopped_at : (n q : ℕ) → Stops (HasRule T) x.term (term_place x) x.goals n q ↔ ((c : Cause) × (walked ≡ refused c q) × (number c ≡ n))
  stopped_at n q = walk↔stops T unique x.term hiproof (term_place x) x.goals n q

positive : (c : Cause) (f q k : ℕ) (a : Answer) → a ≡ answer.refusal (number c) f q k → a.number ≡ 0 → ⊥
positive c f q k a e z = omega (arith, number_positive c, ap (λ (b : Answer). b.number) e)

module _ (t p : List ℕ) where
  abbrev A : Answer
  A = counted_answer (on_proof proof_counts t p)

  -- answer 0: by the three cases in turn
  compare : (T : Table) (x : Proof) → read_table t ≡ gives T → read_proof p ≡ gives x → (h : List Goal) → walk T x.term (term_place x) x.goals ≡ gives h → (b : Bool) → same_goals h x.remaining ≡ b → A.number ≡ 0 → Accepted t p
  compare T x e f h g true s z = record {
    the_table = T;
    the_proof = x;
    table_reads = e;
    proof_reads = f;
    validates = (validated t p T x e f x.remaining).0 (g ∙ ap gives (same_equal h x.remaining s));
  }
  compare T x e f h g false s z = absurd (omega (arith, ap (λ (b : Answer). b.number) (differs t p T x e f h g s)))

  walk_case : (T : Table) (x : Proof) → read_table t ≡ gives T → read_proof p ≡ gives x → (r : Result (List Goal)) → walk T x.term (term_place x) x.goals ≡ r → A.number ≡ 0 → Accepted t p
  walk_case T x e f (gives h) g z = compare T x e f h g (same_goals h x.remaining) refl z
  walk_case T x e f (refused c q) g z = absurd (positive c 2 q 0 A (walk_refuses t p T x e f g) z)

  proof_case : (T : Table) → read_table t ≡ gives T → (r : Result Proof) → read_proof p ≡ r → A.number ≡ 0 → Accepted t p
  proof_case T e (gives x) f z = walk_case T x e f (walk T x.term (term_place x) x.goals) refl z
  proof_case T e (refused c q) f z = absurd (positive c 2 q 0 A (proof_refuses t p e f) z)

  table_case : (r : Result Table) → read_table t ≡ r → A.number ≡ 0 → Accepted t p
  table_case (gives T) e z = proof_case T e (read_proof p) refl z
  table_case (refused c q) e z = absurd (positive c 1 q 0 A (table_refuses t p e) z)

  accepted_answer : (a : Accepted t p)
      → A ≡ answer.counted (fields a.the_proof.term) (atomics a.the_proof.term) (length a.the_proof.remaining) (different (walked_rules a.the_table a.the_proof.term a.the_proof.goals))
  accepted_answer a =
      let x = a.the_proof in
      accepts t p a.the_table x a.table_reads a.proof_reads x.remaining ((validated t p a.the_table x a.table_reads a.proof_reads x.remaining).1 a.validates) (equal_same x.remaining)

pub check_accepts : Check-accepts
check_accepts t p w h = (
  (λ z. table_case t p (read_table t) refl (sym (ap (λ (a : Answer). a.number) (answered t p w h)) ∙ z)),
  (λ a. ap (λ (b : Answer). b.number) (answered t p w h ∙ accepted_answer t p a)),
)

-- the same of the entry
pub check_answers : (t p w : List ℕ) → check_work ≤ length w → (a : Accepted t p)
    → (check t p w).answer ≡ answer.counted (fields a.the_proof.term) (atomics a.the_proof.term) (length a.the_proof.remaining) (different (walked_rules a.the_table a.the_proof.term a.the_proof.goals))
check_answers t p w h a = answered t p w h ∙ accepted_answer t p a

pub check-counts : Check-counts
check-counts t p w h a =
    let x = a.the_proof in
    (different (walked_rules a.the_table x.term x.goals), used-set t a.the_table a.table_reads x x.remaining a.validates, check_answers t p w h a)

-- 20, 22, 34 and 35, and 21
module _ (t p w : List ℕ) (T : Table) (x : Proof) (h : check_work ≤ length w) (e : read_table t ≡ gives T) (f : read_proof p ≡ gives x) where
  abbrev result : Result (List Goal)
  result = walk T x.term (term_place x) x.goals

  the_stop : (n q : ℕ) → (n ≡ 21 → ⊥) → A t p ≡ answer.refusal n 2 q 0 → (r : Result (List Goal)) → result ≡ r → (c : Cause) × (result ≡ refused c q) × (number c ≡ n)
  the_stop n q k a (refused c q') g =
      let b = sym (walk_refuses t p T x e f g) ∙ a in
      let m : q' ≡ q = ap (λ (y : Answer). y.place) b in
      (c, g ∙ ap (refused c) m, ap (λ (y : Answer). y.number) b)
  the_stop n q k a (gives l) g = by_comparison (same_goals l x.remaining) refl
    where
      by_comparison : (b : Bool) → same_goals l x.remaining ≡ b → (c : Cause) × (result ≡ refused c q) × (number c ≡ n)
      by_comparison true s = absurd (omega (arith, ap (λ (y : Answer). y.file) (sym (accepts t p T x e f l g s) ∙ a)))
      by_comparison false s = absurd (k (sym (ap (λ (y : Answer). y.number) (sym (differs t p T x e f l g s) ∙ a))))

  other_list : (l : List Goal) → (l ≡ x.remaining → ⊥) → (b : Bool) → same_goals l x.remaining ≡ b → same_goals l x.remaining ≡ false
  other_list l ne true s = absurd (ne (same_equal l x.remaining s))
  other_list l ne false s = s

  not_same : (l : List Goal) → same_goals l x.remaining ≡ false → l ≡ x.remaining → ⊥
  not_same l s m = false≢true (sym s ∙ ap (λ (g : List Goal). same_goals g x.remaining) m ∙ equal_same x.remaining)

  the_list : (A t p).number ≡ 21 → (r : Result (List Goal)) → result ≡ r → (l : List Goal) × Validates (HasRule T) AtMost256 x.term x.goals l × (l ≡ x.remaining → ⊥)
  the_list a (refused c q) g = absurd (no_21 (walk-number T x.term (hiproof t p T x e f) (term_place x) x.goals g) (sym (ap (λ (y : Answer). y.number) (walk_refuses t p T x e f g)) ∙ a))
    where
      no_21 : StopNumber (number c) → number c ≡ 21 → ⊥
      no_21 (inl m) n = omega arith
      no_21 (inr (inl m)) n = omega arith
      no_21 (inr (inr (inl m))) n = omega arith
      no_21 (inr (inr (inr m))) n = omega arith
  the_list a (gives l) g = by_comparison (same_goals l x.remaining) refl
    where
      by_comparison : (b : Bool) → same_goals l x.remaining ≡ b → (l : List Goal) × Validates (HasRule T) AtMost256 x.term x.goals l × (l ≡ x.remaining → ⊥)
      by_comparison true s = absurd (omega (arith, a, ap (λ (y : Answer). y.number) (accepts t p T x e f l g s)))
      by_comparison false s = (l, (validated t p T x e f l).0 g, not_same l s)

  abbrev StopsSo : (number stop : ℕ) → Type 0
  StopsSo n q = Stops (HasRule T) x.term (term_place x) x.goals n q

  so_stops : (n q : ℕ) → StopsSo n q → (check t p w).answer ≡ answer.refusal n 2 q 0
  so_stops n q s =
      let (c, g, m) = (stopped_at t p T x e f n q).0 s in
      answered t p w h ∙ walk_refuses t p T x e f g ∙ ap (λ (k : ℕ). answer.refusal k 2 q 0) m

  so_stopped : (n q : ℕ) → (n ≡ 21 → ⊥) → (check t p w).answer ≡ answer.refusal n 2 q 0 → StopsSo n q
  so_stopped n q k a = (stopped_at t p T x e f n q).1 (the_stop n q k (sym (answered t p w h) ∙ a) result refl)

  refuses : Refuses t p w T x
  refuses = record {
    stops = so_stops;
    stopped = so_stopped;
    reasons = λ n q r. so_stops n q (reached_stops r.2 r.3);
    reasoned = λ n q k l a. stops_reached l (so_stopped n q k a);
    differs = λ l v ne. answered t p w h ∙ differs t p T x e f l ((validated t p T x e f l).1 v) (other_list l ne (same_goals l x.remaining) refl);
    differed = λ a. the_list (sym (ap (λ (y : Answer). y.number) (answered t p w h)) ∙ a) result refl;
  }

pub check_refuses : Check-refuses
check_refuses t p w T x h e f = refuses t p w T x h e f

-- the remaining list stands behind the term
remaining_behind : (x : Proof) → term_place x + size x.term ≡ remaining_place x
unfolding remaining_place
remaining_behind x = refl

-- demand 1, for every entry that checks a proof: its own refusals are those of the walk, then 21
module _ {B : Type 0} (t p : List ℕ) (T : Table) (x : Proof) (f : read_proof_fields p ≡ gives x) (v : B) where
  agreeing : (l : List Goal) → same_goals l x.remaining ≡ true → remaining_are x v l ≡ gives v
  unfolding remaining_are
  agreeing l s = rw s

  differing : (l : List Goal) → same_goals l x.remaining ≡ false → remaining_are x v l ≡ refused RemainingDiffer (remaining_place x)
  unfolding remaining_are
  differing l s = rw s

  own_21 : CheckRefuses p (number RemainingDiffer) (remaining_place x)
  unfolding number
  own_21 = (inr refl, omega (arith, (proof_stands p x f).end_is))

  moved : (b c : Cause) (i q : ℕ) → ◌≡◌ {A = Result B} (refused b i) (refused c q) → CheckRefuses p (number b) i → CheckRefuses p (number c) q
  moved b c i q e k = subst (λ (d : Cause). CheckRefuses p (number d) q) (same_cause e) (subst (λ (j : ℕ). CheckRefuses p (number b) j) (same_place e) k)

  by_comparison : (l : List Goal) (b : Bool) → same_goals l x.remaining ≡ b → (c : Cause) (q : ℕ) → remaining_are x v l ≡ refused c q → CheckRefuses p (number c) q
  by_comparison l true s c q g = never_gives (sym g ∙ agreeing l s)
  by_comparison l false s c q g = moved RemainingDiffer c (remaining_place x) q (sym (differing l s) ∙ g) own_21

  given_on : (l : List Goal) → walk T x.term (term_place x) x.goals ≡ gives l → checked T x v ≡ remaining_are x v l
  unfolding checked and_then
  given_on l g = rw g

  stopped_so : (c : Cause) (q : ℕ) → walk T x.term (term_place x) x.goals ≡ refused c q → checked T x v ≡ refused c q
  unfolding checked and_then
  stopped_so c q g = rw g

  by_walk : (r : Result (List Goal)) → walk T x.term (term_place x) x.goals ≡ r → (c : Cause) (q : ℕ) → checked T x v ≡ refused c q → CheckRefuses p (number c) q
  by_walk (gives l) g c q h = by_comparison l (same_goals l x.remaining) refl c q (sym (given_on l g) ∙ h)
  by_walk (refused b i) g c q h =
      let y = (proof_stands p x f).hiproof in
      moved b c i q
      (sym (stopped_so b i g) ∙ h)
      (inl (walk-number T x.term y (term_place x) x.goals g), omega (arith, walk_place T x.term y (term_place x) x.goals g, (proof_stands p x f).end_is, remaining_behind x))

-- the empty proof is accepted in every table
pub empty_checked : {B : Type 0} (T : Table) (v : B) → checked T empty_proof v ≡ gives v
unfolding checked walk on_no_goal and_then remaining_are same_goals empty_proof
empty_checked T v = refl

-- a file of no bytes reads as that proof, and any other by its own fields
own_refusals : {B : Type 0} (t p : List ℕ) (T : Table) (x : Proof) (v : B) → read_proof p ≡ gives x → (c : Cause) (q : ℕ) → checked T x v ≡ refused c q → CheckRefuses p (number c) q
own_refusals t [] T x v f c q g = never_gives (sym g ∙ ap (λ (y : Proof). checked T y v) (same_value (sym f ∙ reads_none)) ∙ empty_checked T v)
own_refusals t (b ∷ p) T x v f c q g = by_walk t (b ∷ p) T x (sym (read_itself (b ∷ p) (omega arith)) ∙ f) v (walk T x.term (term_place x) x.goals) refl c q g

pub proof_comes : {B : Type 0} (value : Table → Proof → B) (t p : List ℕ) → Comes t p (CheckRefuses p) (on_proof value t p)
unfolding on_proof
proof_comes value t p =
    comes t p (CheckRefuses p) (read_proof p) (λ T x. checked T x (value T x)) (λ c q e. Proof-refused p c q e)
    (λ T x e f c q g. own_refusals t p T x (value T x) f c q g)

pub check_ends : Check-ends
unfolding check
check_ends t p w = ends_checked check_work w (on_proof proof_counts t p) t p (CheckRefuses p) (counted_ends (proof_comes proof_counts t p))
