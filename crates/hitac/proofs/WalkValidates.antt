-- The walk gives h exactly where Fig. 2 with the limit of 256 takes the goals to h. From Fig. 2 by induction over its rules;
-- to it by induction over the term, as each part of a walk that gives goals gave goals itself. Assumes nothing.
use Prim.Native.Nat.{ℕ, ◌+◌}
use native.Mathlib.Omega.{arith}
use mathlib.Core.Path.{◌≡◌, refl, sym, ◌∙◌, subst, subst₂}
use mathlib.Core.Logic.Iff
use mathlib.Core.Logic.{◌↔◌}
use mathlib.Core.Option.{Option, none, some}
use mathlib.Core.List.{List, [], ◌∷◌, ◌++◌}
use lib.Dec.{ltb}
use lib.ListN.{length, take, drop, length-append, take-append-drop}
use lib.Seq.{take_at, drop_at}
use borrow.Author.Tests.{le-ltb}
use Rattle.format.specs.declared.values.RuleName.{RuleName}
use Rattle.format.specs.declared.values.Goal.{Goal}
use Rattle.format.specs.declared.refusals.Cause.TheVariants.{GoalsTooFew}
use Rattle.format.specs.Results.{gives, and_then}
use Rattle.format.specs.Terms.{Term, atomic, id, label, sequence, tensor, empty, alternation, assert, defined, size}
use Rattle.tables.specs.Tables.{Table, HasRule, UniqueRules}
use Rattle.tables.specs.Lookup.{FoundRule, find_rule}
use Rattle.tables.proofs.RuleLookup.{found↔rule}
use Rattle.hitac.specs.Hiproofs.{input_arity}
use Rattle.hitac.specs.Validates.{System, AtMost256, Validates, V-Atomic, V-Identity, V-Label, V-Sequence, V-Tensor, V-Empty}
use Rattle.hitac.specs.Premises.{Finds}
use Rattle.hitac.specs.Walk.{walk, on_one_goal, on_no_goal, joined}
use Rattle.hitac.proofs.ResultLaws.{refused_gives, gives_gives, and_then_gives, and_then_passes, test_gives, premises_found, premises_give, one_goal_gives, no_goal_gives, joined-fits_lem, joined_gives}
use Rattle.hitac.proofs.ValidatesLaws.{arity_of}

-- A system is the table's where it holds exactly of what the look-up finds.
abbrev pub Agrees : Table → System → Type 0
Agrees T S = (a : RuleName) (γ : Goal) (h : List Goal) → Finds T a γ h ↔ S a γ h

-- The look-up itself: for theorems that need no unique rules.
pub finds_agrees : (T : Table) → Agrees T (Finds T)
finds_agrees T a γ h = Iff.rfl

-- The rules of the table, by membership, where no two share name and goal.
pub rules_agree : (T : Table) → UniqueRules T → Agrees T (HasRule T)
rules_agree T unique a γ h = found↔rule T a γ unique h

-- A tensor on the goals of its left and of its right term.
pub walk_tensor : (T : Table) (s t : Term) (p : ℕ) (g₁ g₂ : List Goal) → length g₁ ≡ input_arity s
    → walk T (tensor s t) p (g₁ ++ g₂) ≡ and_then (walk T s (p + 3) g₁) (λ h. and_then (walk T t (p + 3 + size s) g₂) (λ k. joined p (h ++ k)))
unfolding walk
walk_tensor T s t p g₁ g₂ n =
    let left : take (input_arity s) (g₁ ++ g₂) ≡ g₁ = take_at g₁ g₂ (input_arity s) n in
    let right : drop (input_arity s) (g₁ ++ g₂) ≡ g₂ = drop_at g₁ g₂ (input_arity s) n in
    rw (le-ltb (length (g₁ ++ g₂)) (input_arity s) (omega (arith, length-append g₁ g₂)))
    (λ i. and_then (walk T s (p + 3) (left i)) (λ h. and_then (walk T t (p + 3 + size s) (right i)) (λ k. joined p (h ++ k))))

module _ (T : Table) (S : System) (agrees : Agrees T S) where
  -- Where the system has no rule, none is found; and the other way round.
  pub no_rule→missing : (a : RuleName) (γ : Goal) → ((h : List Goal) → S a γ h → ⊥) → find_rule T a γ ≡ none
  no_rule→missing a γ lacks = go (find_rule T a γ) refl
    where
      go : (o : Option FoundRule) → find_rule T a γ ≡ o → o ≡ none
      go none e = refl
      go (some r) e = absurd (lacks r.premises ((agrees a γ r.premises).0 (r.number, e)))

  pub missing→no_rule : (a : RuleName) (γ : Goal) → find_rule T a γ ≡ none → (h : List Goal) → S a γ h → ⊥
  missing→no_rule a γ e h m = let (n, f) = (agrees a γ h).1 m in let z : ◌≡◌ {A = ℕ} 0 1 = cc in omega arith

  -- What validates, the walk gives, from any place.
  pub validates→walk : {s : Term} {g h : List Goal} → Validates S AtMost256 s g h → (p : ℕ) → walk T s p g ≡ gives h
  unfolding walk on_one_goal on_no_goal
  validates→walk (V-Atomic {a = a} {γ = γ} {h = h} e) p = premises_found _ _ ((agrees a γ h).1 e).1
  validates→walk V-Identity p = refl
  validates→walk (V-Label v) p = validates→walk v _
  validates→walk (V-Sequence v w) p = and_then_passes _ (validates→walk v _) ∙ validates→walk w _
  validates→walk (V-Tensor {s = s} {t = t} {g₁ = g₁} {g₂ = g₂} {h₁ = h₁} {h₂ = h₂} v w l) p =
      walk_tensor T s t p g₁ g₂ (arity_of v)
      ∙ and_then_passes _ (validates→walk v _)
      ∙ and_then_passes _ (validates→walk w _)
      ∙ joined-fits_lem _ (h₁ ++ h₂) (omega arith)
  validates→walk V-Empty p = refl

  -- The other direction. A tensor from its parts and its joined list:
  tensor_validates : {s t : Term} {g₁ g₂ h₁ h₂ h : List Goal} (p : ℕ) → Validates S AtMost256 s g₁ h₁ → Validates S AtMost256 t g₂ h₂
      → joined p (h₁ ++ h₂) ≡ gives h → Validates S AtMost256 (tensor s t) (g₁ ++ g₂) h
  tensor_validates {s} {t} {g₁} {g₂} {h₁} {h₂} p v w e =
      let (l, i) = joined_gives p (h₁ ++ h₂) e in
      let fits : AtMost256 (h₁ ++ h₂) = omega arith in
      subst (Validates S AtMost256 (tensor s t) (g₁ ++ g₂)) i (V-Tensor v w fits)

  pub walk→validates : (s : Term) (p : ℕ) (g : List Goal) {h : List Goal} → walk T s p g ≡ gives h → Validates S AtMost256 s g h
  unfolding walk
  walk→validates (atomic a) p g {h} e =
      let (γ, i, f) = one_goal_gives _ _ g e in
      rw i (V-Atomic ((agrees a γ h).0 (premises_give _ _ (find_rule T a γ) f)))
  walk→validates id p g e = let (γ, i, f) = one_goal_gives _ _ g e in subst₂ (Validates S AtMost256 id) (sym i) (gives_gives f) V-Identity
  walk→validates (label l s) p g e = let (γ, i, f) = one_goal_gives _ _ g e in rw i (V-Label (walk→validates s _ (γ ∷ []) f))
  walk→validates (sequence s t) p g e =
      let (m, d, f) = and_then_gives _ e in
      V-Sequence {h = m} (walk→validates s _ g d) (walk→validates t _ m f)
  walk→validates (tensor s t) p g {h} e =
      let (b, e₁) = test_gives GoalsTooFew p (ltb (length g) (input_arity s)) e in
      let (h₁, d₁, e₂) = and_then_gives _ e₁ in
      let (h₂, d₂, e₃) = and_then_gives _ e₂ in
      subst
      (λ k. Validates S AtMost256 (tensor s t) k h)
      (take-append-drop (input_arity s) g)
      (tensor_validates {h₁ = h₁} {h₂ = h₂} _ (walk→validates s _ (take (input_arity s) g) d₁) (walk→validates t _ (drop (input_arity s) g) d₂) e₃)
  walk→validates empty p g e = let (i, j) = no_goal_gives _ g e in subst₂ (Validates S AtMost256 empty) (sym i) j V-Empty
  walk→validates (alternation s t) p g e = absurd (refused_gives e)
  walk→validates (assert γ) p g e = absurd (refused_gives e)
  walk→validates (defined n) p g e = absurd (refused_gives e)

-- THE CHECKER'S MEANING: from any place the walk gives h exactly where the paper's rules, over the table's rules, take g to h.
pub walk↔validates : (T : Table) → UniqueRules T → (s : Term) (p : ℕ) (g h : List Goal)
    → (walk T s p g ≡ gives h) ↔ Validates (HasRule T) AtMost256 s g h
walk↔validates T unique s p g h = (
  walk→validates T (HasRule T) (rules_agree T unique) s p g,
  (λ v. validates→walk T (HasRule T) (rules_agree T unique) v p),
)

-- Fig. 2 takes the goals to one list at most.
pub validates_unique : (T : Table) → UniqueRules T → {s : Term} {g h k : List Goal} → Validates (HasRule T) AtMost256 s g h → Validates (HasRule T) AtMost256 s g k
    → h ≡ k
validates_unique T unique v w =
    gives_gives (sym (validates→walk T (HasRule T) (rules_agree T unique) v 0) ∙ validates→walk T (HasRule T) (rules_agree T unique) w 0)
