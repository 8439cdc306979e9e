-- The rules that a walk and a flat derivation use (document 02, P6): which numbers they have, by the terms that the walk comes to and by the uses of the derivation.
-- By induction over Fig. 2, over `Reaches` and over the entries. Assumes nothing.
use Prim.Native.Nat.{ℕ, ◌+◌, ◌≤◌, ◌<◌}
use native.Mathlib.Omega.{arith}
use mathlib.Core.Path.{◌≡◌, refl, sym, ap, subst, ◌∙◌}
use mathlib.Core.Bool.{Bool, true, false, cond}
use mathlib.Core.Logic.{◌⊎◌, inl, inr, ⊎_elim, ◌↔◌}
use mathlib.Core.Option.{Option, none, some}
use mathlib.Core.List.Memᴰ
use mathlib.Core.List.{List, [], ◌∷◌, ◌++◌, Memᴰ}
use mathlib.Core.List as list
use lib.ListN.{length, take, drop}
use lib.Seq.{take_at, drop_at}
use Rattle.format.specs.declared.values.RuleName.{RuleName}
use Rattle.format.specs.declared.values.Goal.{Goal}
use Rattle.format.specs.Results.{Result, gives}
use Rattle.format.specs.Terms.{Term, atomic, sequence, tensor, size}
use Rattle.rule_set.specs.Different.{among}
use Rattle.rule_set.proofs.AmongLaws.{both, among_none, among_head, among_cases, among-append}
use Rattle.tables.specs.Tables.{Table, HasRule}
use Rattle.tables.specs.Within.{Pairs}
use Rattle.tables.specs.Lookup.{FoundRule, found_rule, find_rule}
use Rattle.tables.proofs.Clashes.{Six}
use Rattle.tables.proofs.RuleLookup.{found_few, found↔numbered}
use Rattle.tables.proofs.Unique.{unique_rules}
use Rattle.files.specs.Derivations.{Entry, use_entry, open_entry}
use Rattle.hitac.specs.Hiproofs.{input_arity}
use Rattle.hitac.specs.InputArity.{InputArity}
use Rattle.hitac.specs.Validates.{System, AtMost256, Validates, V-Atomic, V-Identity, V-Label, V-Sequence, V-Tensor, V-Empty}
use Rattle.hitac.specs.Premises.{Finds}
use Rattle.hitac.specs.Walk.{walk}
use Rattle.hitac.specs.Reaches.{Reaches, R-Here, R-Label, R-Sequence-Left, R-Sequence-Right, R-Tensor-Left, R-Tensor-Right}
use Rattle.hitac.specs.Forest.{entries}
use Rattle.hitac.specs.Counts.{uses, given_goals}
use Rattle.hitac.specs.UsedRules.{found_number, looked_up, walked_rules, flat_rules, UsedInWalk, UsedInEntries}
use Rattle.hitac.proofs.InputArities.{arity_computed, arity_holds}
use Rattle.hitac.proofs.ValidatesLaws.{map_system, validates_hiproof, arity_of}
use Rattle.hitac.proofs.WalkValidates.{Agrees, finds_agrees, rules_agree, validates→walk}
use Rattle.hitac.proofs.ForestLaws.{Takes}

-- no number is one of none
pub none_among : {A : Type 0} (n : ℕ) → among n [] ≡ true → A
none_among n m = absurd (both (among n []) m (among_none n))

-- the number is that of the rule that was found
found_among : (n : ℕ) (o : Option FoundRule) (h : List Goal) → o ≡ some (found_rule n h) → among n (found_number o) ≡ true
unfolding found_number
found_among n o h e = rw e (among_head n n [] refl)

among_found : (n : ℕ) (o : Option FoundRule) → among n (found_number o) ≡ true → (h : List Goal) × (o ≡ some (found_rule n h))
unfolding found_number
among_found n none m = none_among n m
among_found n (some r) m =
    ⊎_elim (λ e. (r.premises, ap (λ (k : ℕ). some (found_rule k r.premises)) (sym e))) (λ z. none_among n z) (among_cases n r.number [] m)

-- and so one of the table
pub found_below : (T : Table) (n : ℕ) (a : RuleName) (γ : Goal) → among n (found_number (find_rule T a γ)) ≡ true → n < length T.rules
found_below T n a γ m = let (h, e) = among_found n (find_rule T a γ) m in found_few T a γ n h e

pub found_one : (o : Option FoundRule) → length (found_number o) ≤ 1
unfolding found_number
found_one none = omega arith
found_one (some r) = omega arith

-- a number of two lists joined is one of the first or of the second
module _ (n : ℕ) (ms ns : List ℕ) where
  among_left : among n ms ≡ true → among n (ms ++ ns) ≡ true
  among_left m = among-append n ms ns ∙ ap (λ (b : Bool). cond b true (among n ns)) m

  among-right : among n ns ≡ true → among n (ms ++ ns) ≡ true
  among-right m = among-append n ms ns ∙ go (among n ms)
    where
      go : (b : Bool) → cond b true (among n ns) ≡ true
      go true = refl
      go false = m

  pub among_either : among n (ms ++ ns) ≡ true → (among n ms ≡ true) ⊎ (among n ns ≡ true)
  among_either m = go (among n ms) refl (sym (among-append n ms ns) ∙ m)
    where
      go : (b : Bool) → among n ms ≡ b → cond b true (among n ns) ≡ true → (among n ms ≡ true) ⊎ (among n ns ≡ true)
      go true e x = inl e
      go false e x = inr x

module _ (T : Table) where
  -- the goals that a sequence's right term takes
  abbrev pub between : Term → List Goal → List Goal
  between s g = given_goals (walk T s 0 g)

  -- the numbers of a sequence whose left term validates, and of a tensor on the goals of both its terms
  sequence_rules : {s : Term} (t : Term) {g h : List Goal} → Takes T s g h → walked_rules T (sequence s t) g ≡ walked_rules T s g ++ walked_rules T t h
  unfolding walked_rules
  sequence_rules {s} t {g} v = ap (λ (r : Result (List Goal)). walked_rules T s g ++ walked_rules T t (given_goals r)) (validates→walk T (Finds T) (finds_agrees T) v 0)

  tensor_rules : (s t : Term) (g₁ g₂ : List Goal) → length g₁ ≡ input_arity s → walked_rules T (tensor s t) (g₁ ++ g₂) ≡ walked_rules T s g₁ ++ walked_rules T t g₂
  unfolding walked_rules
  tensor_rules s t g₁ g₂ n =
      let left : take (input_arity s) (g₁ ++ g₂) ≡ g₁ = take_at g₁ g₂ (input_arity s) n in
      let right : drop (input_arity s) (g₁ ++ g₂) ≡ g₂ = drop_at g₁ g₂ (input_arity s) n in
      λ i. walked_rules T s (left i) ++ walked_rules T t (right i)

-- A term that is reached in a system is reached in any that has its rules.
pub map_reaches : {S R : System} → ((a : RuleName) (γ : Goal) (h : List Goal) → S a γ h → R a γ h)
    → {s u : Term} {p q : ℕ} {g k : List Goal} → Reaches S s p g u q k → Reaches R s p g u q k
map_reaches f R-Here = R-Here
map_reaches f (R-Label r) = R-Label (map_reaches f r)
map_reaches f (R-Sequence-Left r) = R-Sequence-Left (map_reaches f r)
map_reaches f (R-Sequence-Right v r) = R-Sequence-Right (map_system f v) (map_reaches f r)
map_reaches f (R-Tensor-Left g₂ i r) = R-Tensor-Left g₂ i (map_reaches f r)
map_reaches f (R-Tensor-Right v r) = R-Tensor-Right (map_system f v) (map_reaches f r)

-- the walk of s from place p on the goals g comes to an atomic on one goal, for which the look-up gives the rule with that number
abbrev pub RuleFoundAt : Table → Term → (place : ℕ) → List Goal → (number : ℕ) → Type 0
RuleFoundAt T s p g n = (a : RuleName) × (γ : Goal) × (h : List Goal) × (q : ℕ) × (find_rule T a γ ≡ some (found_rule n h)) × Reaches (Finds T) s p g (atomic a) q (γ ∷ [])

-- a use of the entries, for which it does
abbrev pub RuleFoundIn : Table → List Entry → (number : ℕ) → Type 0
RuleFoundIn T es n = (a : RuleName) × (γ : Goal) × (h : List Goal) × (find_rule T a γ ≡ some (found_rule n h)) × Memᴰ (use_entry a γ) es

module _ (T : Table) (n : ℕ) where
  -- the arity of a hiproof that validates
  arity_here : {s : Term} {g h : List Goal} → Takes T s g h → InputArity s (length g)
  arity_here {s} v = subst (InputArity s) (sym (arity_of v)) (arity_holds s (validates_hiproof v))

  among→reached : {s : Term} {g h : List Goal} → Takes T s g h → (p : ℕ) → among n (walked_rules T s g) ≡ true → RuleFoundAt T s p g n
  unfolding walked_rules looked_up
  among→reached (V-Atomic {a = a} {γ = γ} e) p m = let (k, f) = among_found n (find_rule T a γ) m in (a, γ, k, p, f, R-Here)
  among→reached V-Identity p m = none_among n m
  among→reached (V-Label v) p m = let (a, γ, k, q, f, r) = among→reached v (p + 5) m in (a, γ, k, q, f, R-Label r)
  among→reached (V-Sequence {s = s} {t = t} {g = g} {h = h} v w) p m =
      ⊎_elim
      (λ x. let (a, γ, k, q, f, r) = among→reached v (p + 3) x in (a, γ, k, q, f, R-Sequence-Left r))
      (λ x. let (a, γ, k, q, f, r) = among→reached w (p + 3 + size s) x in (a, γ, k, q, f, R-Sequence-Right v r))
      (among_either n (walked_rules T s g) (walked_rules T t h) (subst (λ (l : List ℕ). among n l ≡ true) (sequence_rules T t v) m))
  among→reached (V-Tensor {s = s} {t = t} {g₁ = g₁} {g₂ = g₂} v w l) p m =
      ⊎_elim
      (λ x. let (a, γ, k, q, f, r) = among→reached v (p + 3) x in (a, γ, k, q, f, R-Tensor-Left g₂ (arity_here v) r))
      (λ x. let (a, γ, k, q, f, r) = among→reached w (p + 3 + size s) x in (a, γ, k, q, f, R-Tensor-Right v r))
      (among_either n (walked_rules T s g₁) (walked_rules T t g₂) (subst (λ (l : List ℕ). among n l ≡ true) (tensor_rules T s t g₁ g₂ (arity_of v)) m))
  among→reached V-Empty p m = none_among n m

  -- the other way it does not matter whether the walk gives goals
  reached→among : {a : RuleName} {γ : Goal} (h : List Goal) → find_rule T a γ ≡ some (found_rule n h) → {s : Term} {p q : ℕ} {g : List Goal}
      → Reaches (Finds T) s p g (atomic a) q (γ ∷ []) → among n (walked_rules T s g) ≡ true
  unfolding walked_rules looked_up
  reached→among {a} {γ} h e R-Here = found_among n (find_rule T a γ) h e
  reached→among h e (R-Label r) = reached→among h e r
  reached→among h e (R-Sequence-Left {s = s} {t = t} {g = g} r) = among_left n (walked_rules T s g) (walked_rules T t (between T s g)) (reached→among h e r)
  reached→among h e (R-Sequence-Right {s = s} {t = t} {g = g} {h = k} v r) =
      ap (among n) (sequence_rules T t v) ∙ among-right n (walked_rules T s g) (walked_rules T t k) (reached→among h e r)
  reached→among h e (R-Tensor-Left {s = s} {t = t} {g₁ = g₁} g₂ i r) =
      ap (among n) (tensor_rules T s t g₁ g₂ (sym (arity_computed i))) ∙ among_left n (walked_rules T s g₁) (walked_rules T t g₂) (reached→among h e r)
  reached→among h e (R-Tensor-Right {s = s} {t = t} {g₁ = g₁} {g₂ = g₂} v r) =
      ap (among n) (tensor_rules T s t g₁ g₂ (arity_of v)) ∙ among-right n (walked_rules T s g₁) (walked_rules T t g₂) (reached→among h e r)

  -- WALKED: a walk that gives goals has the number exactly if it comes to an atomic for which the rule with that number is found.
  pub walked↔reached : {s : Term} {g h : List Goal} → Takes T s g h → (p : ℕ) → (among n (walked_rules T s g) ≡ true) ↔ RuleFoundAt T s p g n
  walked↔reached v p = (among→reached v p, λ x. reached→among x.2 x.4 x.5)

  among→use : (es : List Entry) → among n (flat_rules T es) ≡ true → RuleFoundIn T es n
  unfolding flat_rules
  among→use [] m = none_among n m
  among→use (use_entry a γ ∷ es) m =
      ⊎_elim
      (λ x. let (h, e) = among_found n (find_rule T a γ) x in (a, γ, h, e, Memᴰ.head refl))
      (λ x. let (b, δ, h, e, i) = among→use es x in (b, δ, h, e, Memᴰ.tail i))
      (among_either n (found_number (find_rule T a γ)) (flat_rules T es) m)
  among→use (open_entry γ ∷ es) m = let (b, δ, h, e, i) = among→use es m in (b, δ, h, e, Memᴰ.tail i)

  behind : (x : Entry) (es : List Entry) → among n (flat_rules T es) ≡ true → among n (flat_rules T (x ∷ es)) ≡ true
  unfolding flat_rules
  behind (use_entry a γ) es m = among-right n (found_number (find_rule T a γ)) (flat_rules T es) m
  behind (open_entry γ) es m = m

  use→among : {a : RuleName} {γ : Goal} (h : List Goal) → find_rule T a γ ≡ some (found_rule n h) → (es : List Entry) → Memᴰ (use_entry a γ) es → among n (flat_rules T es) ≡ true
  unfolding flat_rules
  use→among h e [] i = absurd (Memᴰ.not-nil i)
  use→among {a} {γ} h e (x ∷ es) i =
      ⊎_elim
      (λ z. subst (λ (y : Entry). among n (flat_rules T (y ∷ es)) ≡ true) z (among_left n (found_number (find_rule T a γ)) (flat_rules T es) (found_among n (find_rule T a γ) h e)))
      (λ j. behind x es (use→among h e es j))
      (Memᴰ.cases_cons i)

  -- FLAT: entries have the number exactly if for one of their uses the rule with that number is found.
  pub flat↔use : (es : List Entry) → (among n (flat_rules T es) ≡ true) ↔ RuleFoundIn T es n
  flat↔use es = (among→use es, λ x. use→among x.2 x.3 es x.4)

-- the same by the table's rules and their numbers, without the look-up
module _ (T : Table) (six : Pairs Six T.rules) where
  agree : Agrees T (HasRule T)
  agree = rules_agree T (unique_rules T six)

  pub walked↔numbered : {s : Term} {g h : List Goal} → Validates (HasRule T) AtMost256 s g h → (p n : ℕ) → (among n (walked_rules T s g) ≡ true) ↔ UsedInWalk T s p g n
  walked↔numbered v p n =
      let w = walked↔reached T n (map_system (λ a γ k. (agree a γ k).1) v) p in (
        (λ m. let (a, γ, k, q, f, r) = w.0 m in (a, γ, k, q, (found↔numbered T a γ six n k).0 f, map_reaches (λ b δ l. (agree b δ l).0) r)),
        (λ x. let (a, γ, k, q, f, r) = x in w.1 (a, γ, k, q, (found↔numbered T a γ six n k).1 f, map_reaches (λ b δ l. (agree b δ l).1) r)),
      )

  pub flat↔numbered : (es : List Entry) (n : ℕ) → (among n (flat_rules T es) ≡ true) ↔ UsedInEntries T es n
  flat↔numbered es n = (
    (λ m. let (a, γ, k, f, i) = (flat↔use T n es).0 m in (a, γ, k, (found↔numbered T a γ six n k).0 f, i)),
    (λ x. let (a, γ, k, f, i) = x in (flat↔use T n es).1 (a, γ, k, (found↔numbered T a γ six n k).1 f, i)),
  )
