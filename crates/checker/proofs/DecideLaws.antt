-- One law for each ending of decide: what the walk came to, and whether its goals are those stated, say which answer it is.
-- Assumes nothing.
use Rattle.std.specs.Prelude.{Ok, Err}
use Rattle.std.specs.Prelude as std
use mathlib.Core.Path.{◌≡◌, sym, subst, ap, ◌∙◌}
use mathlib.Core.Bool.{Bool, true, false}
use mathlib.Core.Logic.{inl}
use mathlib.Core.List.{List, []}
use Prim.Native.Nat.{ℕ, ◌+◌, ◌*◌, ◌-◌, ◌≤◌}
use native.Mathlib.Omega.{arith}
use lib.ListN.{length, drop}
use lib.Seq.{paste}
use Rattle.words.specs.Kept.{Kept}
use Rattle.words.proofs.KeptLaws.{kept_copy}
use Rattle.format.specs.declared.values.Goal.{Goal}
use Rattle.format.specs.Limits.{most_bytes}
use Rattle.format.specs.declared.refusals.Cause.{Cause}
use Rattle.format.specs.declared.refusals.Cause.TheVariants.{RemainingDiffer}
use Rattle.format.specs.declared.refusals.Refusal.{Refusal}
use Rattle.format.specs.Refusals.{number}
use Rattle.format.specs.Results.{gives, refused, and_then}
use Rattle.format.specs.Terms.{Term, fields}
use Rattle.format.specs.Goals.{goals_at}
use Rattle.format.proofs.GoalsAt.{goals_paste}
use Rattle.rule_set.specs.Different.{different}
use Rattle.rule_set.specs.Sets.{RuleSet}
use Rattle.rule_set.proofs.SetKept.{set_before}
use Rattle.tables.specs.Tables.{Table}
use Rattle.tables.specs.Standing.{TableStands}
use Rattle.files.specs.declared.proofs.ProofParts.{ProofParts}
use Rattle.files.specs.Proofs.{Proof, read_proof_fields, term_place, remaining_place}
use Rattle.files.specs.Shapes.{parts_of}
use Rattle.hitac.specs.Hiproofs.{atomics}
use Rattle.hitac.specs.Walk.{walk}
use Rattle.hitac.specs.UsedRules.{walked_rules}
use Rattle.hitac.proofs.TermBounds.{atomics-fields}
use Rattle.answers.specs.declared.Answer.{Answer}
use Rattle.answers.specs.Answers as answer
use Rattle.format.proofs.ResultLaws.{same_value}
use Rattle.entries.specs.Check.{same_goals, remaining_are, checked, proof_counts}
use Rattle.input_arities.specs.Layout.{stack_end, frames_end, arities_end}
use Rattle.input_arities.specs.Arities.{Noted}
use Rattle.input_arities.proofs.ArityLaws.{ahead_kept}
use Rattle.input_arities.proofs.ProofLaws.{Small, standing, small, term_room}
use Rattle.walks.specs.declared.state.Ended.{Ended}
use Rattle.checker.specs.Layout.{set_place, set_end}
use Rattle.checker.specs.Walks.{Ready, LaidOut, Walks}
use Rattle.checker.specs.Checks.{checked_answer}

-- ---- the answers

module _ (T : Table) (p : Proof) where
  ends_refused : (c : Cause) (q : ℕ) → walk T p.term (term_place p) p.goals ≡ refused c q → checked_answer T p ≡ answer.refusal (number c) 2 q 0
  unfolding checked_answer checked and_then
  ends_refused c q e = rw e

  ends_other : (h : List Goal) → walk T p.term (term_place p) p.goals ≡ gives h → same_goals h p.remaining ≡ false → checked_answer T p ≡ answer.refusal (number RemainingDiffer) 2 (remaining_place p) 0
  unfolding checked_answer checked and_then remaining_are
  ends_other h e f = rw (e, f)

  ends_accepted : (h : List Goal) (u : ℕ) → walk T p.term (term_place p) p.goals ≡ gives h → same_goals h p.remaining ≡ true → u ≡ atomics p.term → checked_answer T p ≡ answer.counted (fields p.term) u (length p.remaining) (different (walked_rules T p.term p.goals))
  unfolding checked_answer checked and_then remaining_are proof_counts
  ends_accepted h u e f n = rw (e, f, n)

-- ---- the walk of a proof's term, on its goals at the end of the stacks

abbrev top : ProofParts → ℕ
top q = stack_end - q.goals * 2

module _ (s : List ℕ) (p : Proof) (e : read_proof_fields s ≡ gives p) (q : ProofParts) (is : parts_of p ≡ q) (w₁ w₂ : List ℕ) (copied : w₂ ≡ paste w₁ (top q) (drop 3 s) (q.goals * 2)) (enough : arities_end ≤ length w₁) where
  copy_kept : Kept w₁ w₂ 0 stack_end
  copy_kept =
      let z = small s p e q is in
      subst (λ (l : List ℕ). Kept w₁ l 0 stack_end) (sym copied) (kept_copy w₁ s (top q) 3 (q.goals * 2) 0 stack_end (omega (arith, z.goals)) z.goals_inside (omega arith) (omega (arith, z.goals)))

  walk_ready : (w₀ : List ℕ) → Noted w₀ w₁ p.term → Ready s q.term p.term w₂ q.goals
  walk_ready w₀ n =
      let z = small s p e q is in
      let r = term_room s p e q is w₁ enough in
      record { stands = r.stands; ahead = ahead_kept w₁ w₂ 0 stack_end frames_end _ copy_kept (inl (omega arith)) n.ahead; fields_few = r.few; goals_few = z.goals }

  -- the set behind the index
  set_still : (w₀ : List ℕ) → Noted w₀ w₁ p.term → length w₁ ≡ length w₀ → length w₂ ≡ length w₁ → RuleSet w₀ set_place [] → RuleSet w₂ set_place []
  set_still w₀ n l l₂ set = set_before w₁ w₂ set_place [] 0 stack_end l₂ copy_kept (omega arith) (set_before w₀ w₁ set_place [] 0 arities_end l n.kept (omega arith) set)

  goals_there : goals_at w₂ (top q) q.goals ≡ p.goals
  unfolding parts_of
  goals_there =
      let z = small s p e q is in
      let many : q.goals ≡ length p.goals = ap (λ (x : ProofParts). x.goals) (sym is) in
      ap (λ (l : List ℕ). goals_at l (top q) q.goals) copied
      ∙ goals_paste w₁ s (top q) 3 q.goals (omega (arith, z.goals)) z.goals_inside
      ∙ ap (goals_at s 3) many
      ∙ sym (standing s p e).goals_stand.goals_are

  -- the set was made empty, then the arities were noted, then the goals were copied
  pub laid_out : (w w₀ : List ℕ) → Kept w w₀ set_place set_end → RuleSet w₀ set_place [] → Noted w₀ w₁ p.term → length w₁ ≡ length w₀ → length w₂ ≡ length w₁ → LaidOut s p q w w₂
  laid_out w w₀ k set n l l₂ = record {
    ready = walk_ready w₀ n;
    goals_are = goals_there;
    empty = set_still w₀ n l l₂ set;
    index_kept = λ i a b. copy_kept.above i (omega arith) ∙ n.kept.above i (omega arith) ∙ k.below i (omega arith);
  }

-- a file reads as one proof
pub same-proof : (s : List ℕ) (p p' : Proof) (T : Table) (r : Answer) → read_proof_fields s ≡ gives p → read_proof_fields s ≡ gives p' → r ≡ checked_answer T p → r ≡ checked_answer T p'
same-proof s p p' T r e e' h = subst (λ (x : Proof). r ≡ checked_answer T x) (same_value (sym e ∙ e')) h

-- what was walked
pub record Walking (T : Table) (s : List ℕ) (p : Proof) (q : ProofParts) (w₂ w₃ : List ℕ) (r : std.Result Ended Refusal) : Type 0 where
  pub reads : read_proof_fields s ≡ gives p
  pub parts_are : parts_of p ≡ q
  pub goals_are : goals_at w₂ (top q) q.goals ≡ p.goals
  pub walked : Walks T p.term q.term (length s) w₂ w₃ q.goals r

pub walking : (T : Table) (table : List ℕ) (first : ℕ) (s : List ℕ) (p : Proof) (q : ProofParts) (w w₂ w₃ : List ℕ) (r : std.Result Ended Refusal) → read_proof_fields s ≡ gives p → parts_of p ≡ q → LaidOut s p q w w₂
    → ((T : Table) (t : Term) → TableStands table first T → Ready s q.term t w₂ q.goals → Walks T t q.term (length s) w₂ w₃ q.goals r) → TableStands table first T → Walking T s p q w₂ w₃ r
walking T table first s p q w w₂ w₃ r e is l walks st = record { reads = e; parts_are = is; goals_are = l.goals_are; walked = walks T p.term st l.ready }

module _ (T : Table) (s : List ℕ) (p : Proof) (q : ProofParts) (w₂ w₃ : List ℕ) (r : std.Result Ended Refusal) (x : Walking T s p q w₂ w₃ r) where
  sizes : Small s q
  sizes = small s p x.reads q x.parts_are

  same_walk : walk T p.term q.term (goals_at w₂ (top q) q.goals) ≡ walk T p.term (term_place p) p.goals
  unfolding parts_of
  same_walk = let e : q.term ≡ term_place p = ap (λ (y : ProofParts). y.term) (sym x.parts_are) in rw (x.goals_are, e)

  module _ (f : Refusal) (t : r ≡ Err f) where
    pub decides_refused : (checked_answer T p ≡ answer.refusal (number f.cause) 2 f.place 0) × (f.place ≤ most_bytes)
    unfolding Walks
    decides_refused =
        let z = subst (Walks T p.term q.term (length s) w₂ w₃ q.goals) t x.walked in
        (ends_refused T p f.cause f.place (sym same_walk ∙ z.0), omega (arith, z.1, sizes.file))

  module _ (e : Ended) (t : r ≡ Ok e) where
    abbrev n : ℕ
    n = e.given

    abbrev u : ℕ
    u = e.uses

    gave : (walk T p.term (term_place p) p.goals ≡ gives (goals_at w₃ 0 n)) × (u ≡ atomics p.term) × (n * 2 ≤ stack_end) × RuleSet w₃ set_place (walked_rules T p.term p.goals)
    unfolding Walks
    gave = let z = subst (Walks T p.term q.term (length s) w₂ w₃ q.goals) t x.walked in (sym same_walk ∙ z.0, z.1, z.2, subst (λ (g : List Goal). RuleSet w₃ set_place (walked_rules T p.term g)) x.goals_are z.3)

    pub decides_bound : n * 2 ≤ stack_end
    decides_bound = gave.2

    -- the set is that of the rules that the definition counts
    pub decides_rules : RuleSet w₃ set_place (walked_rules T p.term p.goals)
    decides_rules = gave.3

    abbrev Compared : Bool → Type 0
    Compared b = same_goals (goals_at w₃ 0 n) (goals_at s (q.rest + 3) q.remaining) ≡ b

    compared : (b : Bool) → Compared b → same_goals (goals_at w₃ 0 n) p.remaining ≡ b
    unfolding parts_of
    compared b f =
        ap (same_goals (goals_at w₃ 0 n)) ((standing s p x.reads).remaining_stand.goals_are ∙ ap (λ (y : ProofParts). goals_at s (y.rest + 3) y.remaining) x.parts_are) ∙ f

    -- m term fields were counted, and d different rules
    pub decides_accepted : Compared true → (m d : ℕ) → m ≡ fields p.term → d ≡ different (walked_rules T p.term p.goals)
        → (checked_answer T p ≡ answer.counted m u q.remaining d) × ((m ≤ most_bytes) × (u ≤ most_bytes) × (q.remaining ≤ most_bytes))
    unfolding parts_of
    decides_accepted f m d e k =
        let few = (standing s p x.reads).few_fields in (
          rw (e, k) (subst (λ (y : ProofParts). checked_answer T p ≡ answer.counted (fields p.term) u y.remaining (different (walked_rules T p.term p.goals))) x.parts_are (ends_accepted T p (goals_at w₃ 0 n) u gave.0 (compared true f) gave.1)),
          (omega (arith, e, few), omega (arith, gave.1, atomics-fields p.term, few), omega (arith, sizes.remaining)),
        )

    pub decides_other : Compared false → (checked_answer T p ≡ answer.refusal (number RemainingDiffer) 2 q.rest 0) × (q.rest ≤ most_bytes)
    unfolding parts_of
    decides_other f = (
      subst (λ (y : ProofParts). checked_answer T p ≡ answer.refusal (number RemainingDiffer) 2 y.rest 0) x.parts_are (ends_other T p (goals_at w₃ 0 n) gave.0 (compared false f)),
      omega (arith, sizes.remaining_inside, sizes.file),
    )
