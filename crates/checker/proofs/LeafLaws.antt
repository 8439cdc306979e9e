-- One law for each way in which a term without inner terms returns, by the cases of the walk of hitac.
-- Assumes nothing.
use Rattle.std.specs.Prelude.{Ok, Err}
use mathlib.Core.Path.{◌≡◌, refl, sym, subst, ap, ◌∙◌}
use mathlib.Core.Option.{none, some}
use mathlib.Core.List.{List, [], ◌∷◌, ◌++◌, append-nil}
use Prim.Native.Nat.{ℕ, zero, suc, ◌+◌, ◌*◌, ◌≤◌, ◌<◌}
use native.Mathlib.Omega.{arith}
use lib.ListN.{length, get_or, drop, length-drop}
use lib.Seq.{paste, length-paste}
use Rattle.words.specs.Word.{word, put_word}
use Rattle.words.specs.Kept.{Kept}
use Rattle.words.proofs.KeptLaws.{kept_copy, kept_put, kept_same}
use Rattle.format.specs.declared.values.RuleName.{RuleName}
use Rattle.format.specs.declared.values.Goal.{Goal}
use Rattle.format.specs.declared.values.TacticNo.{TacticNo}
use Rattle.format.specs.declared.refusals.Cause.{Cause}
use Rattle.format.specs.declared.refusals.Cause.TheVariants.{RuleMissing, GoalCountWrong}
use Rattle.format.specs.Results.{Result, gives, refused}
use Rattle.format.specs.Values.{rule_name, goal}
use Rattle.format.specs.Terms.{Term, atomic, id, empty, alternation, assert, defined}
use Rattle.format.specs.Goals.{goals_at}
use Rattle.format.proofs.GoalsAt.{goals_paste, goals_put}
use Rattle.format.proofs.ByTag.{by_tag}
use Rattle.rule_set.specs.Sets.{RuleSet}
use Rattle.rule_set.proofs.SetLaws.{set-turned}
use Rattle.rule_set.proofs.SetKept.{set_before}
use Rattle.tables.specs.Tables.{Table}
use Rattle.tables.specs.Lookup.{found_rule, find_rule}
use Rattle.hitac.specs.Hiproofs.{atomics}
use Rattle.hitac.specs.Walk.{on_one_goal, on_no_goal, premises_or, walk}
use Rattle.hitac.specs.UsedRules.{found_number, looked_up, walked_rules}
use Rattle.input_arities.specs.Layout.{stack_end, arities_end}
use Rattle.walks.specs.declared.state.Next.{Next}
use Rattle.checker.specs.Layout.{set_place, set_end}
use Rattle.checker.specs.Acts.{goals_in, walk_in, LeafReady, Acts}

not_one : (f : Goal → Result (List Goal)) (p : ℕ) (w : List ℕ) (top count : ℕ) → (count ≡ 1 → ⊥) → on_one_goal p f (goals_at w top count) ≡ refused GoalCountWrong p
unfolding goals_at on_one_goal
not_one f p w top zero h = refl
not_one f p w top (suc zero) h = absurd (h refl)
not_one f p w top (suc (suc k)) h = refl

one : (f : Goal → Result (List Goal)) (p : ℕ) (w : List ℕ) (top count : ℕ) → count ≡ 1 → on_one_goal p f (goals_at w top count) ≡ f (goal (word w top))
unfolding goals_at on_one_goal
one f p w top zero h = absurd (omega arith)
one f p w top (suc zero) h = refl
one f p w top (suc (suc k)) h = absurd (omega arith)

not_none : (p : ℕ) (w : List ℕ) (top count : ℕ) → (count ≡ 0 → ⊥) → on_no_goal p (goals_at w top count) ≡ refused GoalCountWrong p
unfolding goals_at on_no_goal
not_none p w top zero h = absurd (h refl)
not_none p w top (suc k) h = refl

no_goal_lem : (p : ℕ) (w : List ℕ) (top count : ℕ) → count ≡ 0 → on_no_goal p (goals_at w top count) ≡ gives []
unfolding goals_at on_no_goal
no_goal_lem p w top zero h = refl
no_goal_lem p w top (suc k) h = absurd (omega arith)

-- the look-up of an atomic on one goal
looked_one : (T : Table) (a : RuleName) (w : List ℕ) (top count : ℕ) → count ≡ 1 → looked_up T a (goals_at w top count) ≡ found_number (find_rule T a (goal (word w top)))
unfolding goals_at looked_up
looked_one T a w top zero h = absurd (omega arith)
looked_one T a w top (suc zero) h = refl
looked_one T a w top (suc (suc k)) h = absurd (omega arith)

-- the look-up by the numbers that the code read
pub looked_up_lem : (T : Table) (a : RuleName) (γ : Goal) (x y : ℕ) → a.0 ≡ x → γ.0 ≡ y → find_rule T a γ ≡ find_rule T (rule_name x) (goal y)
looked_up_lem T a γ x y p q = λ i. find_rule T (record { 0 = p i }) (record { 0 = q i })

-- a term that looked no rule up, and wrote on the stacks
same_rules : (w w' : List ℕ) (low high : ℕ) → length w' ≡ length w → Kept w w' low high → high ≤ stack_end → (A : List ℕ) → RuleSet w set_place A → RuleSet w' set_place (A ++ [])
same_rules w w' low high e k h A s = subst (RuleSet w' set_place) (sym (append-nil A)) (set_before w w' set_place A low high e k (omega arith) s)

module _ (T : Table) (at : ℕ) (w : List ℕ) (n : Next) where
  refuses : (t : Term) (c : Cause) → walk_in T t at w n ≡ refused c at → Acts T t at w w n (Err c)
  unfolding Acts
  refuses t c e = (e, refl)

  pub atomic_not_one : (a : RuleName) → (n.count ≡ 1 → ⊥) → Acts T (atomic a) at w w n (Err GoalCountWrong)
  unfolding walk
  atomic_not_one a h = refuses (atomic a) GoalCountWrong (not_one (λ γ. premises_or RuleMissing at (find_rule T a γ)) at w n.top n.count h)

  pub atomic_missing : (a : RuleName) → n.count ≡ 1 → find_rule T a (goal (word w n.top)) ≡ none → Acts T (atomic a) at w w n (Err RuleMissing)
  unfolding walk premises_or
  atomic_missing a h e = refuses (atomic a) RuleMissing (one (λ γ. premises_or RuleMissing at (find_rule T a γ)) at w n.top n.count h ∙ ap (premises_or RuleMissing at) e)

  -- the premises of a rule, copied from the table
  module _ (a : RuleName) (table : List ℕ) (number place k : ℕ) (v w' : List ℕ) (size : length v ≡ length w) (in_set : Kept w v set_place set_end) (more : (A : List ℕ) → RuleSet w set_place A → RuleSet v set_place (number ∷ A))
      (is : w' ≡ paste v n.low (drop place table) (k * 2)) (one_goal_lem : n.count ≡ 1) (found : find_rule T a (goal (word w n.top)) ≡ some (found_rule number (goals_at table place k)))
      (few : k ≤ 8) (inside : place + k * 2 ≤ length table) (apart : n.low + 14 ≤ n.top) (below : n.top + n.count * 2 ≤ stack_end) (space : arities_end ≤ length w) where
    copied_kept : Kept v w' n.low (n.top + n.count * 2)
    copied_kept = subst (λ (u : List ℕ). Kept v u n.low (n.top + n.count * 2)) (sym is) (kept_copy v table n.low place (k * 2) n.low (n.top + n.count * 2) (omega arith) inside (omega arith) (omega arith))

    copied_length : length w' ≡ length v
    copied_length = ap length is ∙ length-paste v n.low (drop place table) (k * 2) (omega arith) (omega (arith, length-drop place table))

    its_rule : walked_rules T (atomic a) (goals_in w n) ≡ number ∷ []
    unfolding walked_rules found_number
    its_rule = looked_one T a w n.top n.count one_goal_lem ∙ ap found_number found

    pub atomic_copied : Acts T (atomic a) at w w' n (Ok (record { given = k; uses = 1 }))
    unfolding Acts walk premises_or atomics
    atomic_copied =
        let there : goals_at w' n.low k ≡ goals_at table place k = ap (λ (u : List ℕ). goals_at u n.low k) is ∙ goals_paste v table n.low place k (omega arith) inside in
        record {
          between = v;
          in_set = in_set;
          kept = copied_kept;
          rules = λ A s. subst (λ (l : List ℕ). RuleSet w' set_place (A ++ l)) (sym its_rule) (set_before v w' set_place _ n.low (n.top + n.count * 2) copied_length copied_kept (omega arith) (set-turned v set_place number A (more A s)));
          outcome = one (λ γ. premises_or RuleMissing at (find_rule T a γ)) at w n.top n.count one_goal_lem ∙ ap (premises_or RuleMissing at) found ∙ ap gives (sym there);
          used_is = refl;
          few = omega arith;
        }

  pub id_not_one : (n.count ≡ 1 → ⊥) → Acts T id at w w n (Err GoalCountWrong)
  unfolding walk
  id_not_one h = refuses id GoalCountWrong (not_one (λ γ. gives (γ ∷ [])) at w n.top n.count h)

  pub id_one : (v : ℕ) (w' : List ℕ) → n.count ≡ 1 → v ≡ word w n.top → w' ≡ put_word w n.low v → length w' ≡ length w → n.low ≤ n.top → n.top + n.count * 2 ≤ stack_end → arities_end ≤ length w → Acts T id at w w' n (Ok (record { given = 1; uses = 0 }))
  unfolding Acts walk walked_rules atomics
  id_one v w' h e is size l b space = record {
    between = w;
    in_set = kept_same w _ _;
    kept = stored;
    rules = same_rules w w' n.low (n.top + n.count * 2) size stored b;
    outcome = one (λ γ. gives (γ ∷ [])) at w n.top n.count h ∙ ap gives (sym (ap (λ (s : List ℕ). goals_at s n.low 1) is ∙ goals_put w n.low v (omega arith) ∙ ap (λ (x : ℕ). goal x ∷ []) e));
    used_is = refl;
    few = omega arith;
  }
    where
      stored : Kept w w' n.low (n.top + n.count * 2)
      stored = subst (λ (s : List ℕ). Kept w s n.low (n.top + n.count * 2)) (sym is) (kept_put w n.low v n.low (n.top + n.count * 2) (omega arith) (omega arith))

  pub empty_not_none : (n.count ≡ 0 → ⊥) → Acts T empty at w w n (Err GoalCountWrong)
  unfolding walk
  empty_not_none h = refuses empty GoalCountWrong (not_none at w n.top n.count h)

  pub empty_none : n.count ≡ 0 → Acts T empty at w w n (Ok (record { given = 0; uses = 0 }))
  unfolding Acts walk walked_rules atomics goals_at
  empty_none h = record {
    between = w;
    in_set = kept_same w _ _;
    kept = kept_same w _ _;
    rules = same_rules w w 0 0 refl (kept_same w _ _) (omega arith);
    outcome = no_goal_lem at w n.top n.count h;
    used_is = refl;
    few = omega arith;
  }

  -- a term that stands in no hiproof
  pub other_alternation : (t u : Term) → Acts T (alternation t u) at w w n (Err GoalCountWrong)
  unfolding walk
  other_alternation t u = refuses (alternation t u) GoalCountWrong refl

  pub other_assert : (γ : Goal) → Acts T (assert γ) at w w n (Err GoalCountWrong)
  unfolding walk
  other_assert γ = refuses (assert γ) GoalCountWrong refl

  pub other_defined : (m : TacticNo) → Acts T (defined m) at w w n (Err GoalCountWrong)
  unfolding walk
  other_defined m = refuses (defined m) GoalCountWrong refl

-- an atomic that is ready: where its name is, and its room
pub some_atomic : (s : List ℕ) (at : ℕ) (w : List ℕ) (n : Next) (t : Term) → LeafReady s at t w n → get_or s at 0 ≡ 16 → (at + 4 < length s) × (n.low + 14 ≤ n.top)
unfolding atomics
some_atomic s at w n t r e = by_tag s at (λ v. LeafReady s at v w n → (at + 4 < length s) × (n.low + 14 ≤ n.top)) 16 (λ a v q. (omega (arith, v), omega (arith, q.apart))) e t r.stands r
