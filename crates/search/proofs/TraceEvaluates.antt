-- The search finds exactly what Fig. 3 derives: by induction over the height one way, over the rules the other.
-- Assumes nothing.
use Prim.Native.Nat.{ℕ, zero, suc, ◌≤◌}
use mathlib.Core.Path.{◌≡◌, refl, ap, sym, subst}
use mathlib.Core.Bool.{Bool, true, false, cond}
use mathlib.Core.Logic.{◌⊎◌, inl, inr, ◌↔◌}
use mathlib.Core.List.{List, [], ◌∷◌, ◌++◌, append_assoc, append-nil}
use mathlib.Core.Option.{Option, none, some}
use native.Mathlib.Omega.{arith}
use lib.ListN.{length}
use borrow.Author.Tests.{leb-true, le-leb, eq-eqb}
use Rattle.format.specs.declared.values.Goal.{Goal}
use Rattle.format.specs.declared.values.RuleName.{RuleName}
use Rattle.format.specs.declared.values.TacticNo.{TacticNo}
use Rattle.format.specs.declared.values.Label.{Label}
use Rattle.format.specs.Terms.{Term, atomic, id, label, sequence, tensor, empty, alternation, assert, defined}
use Rattle.tables.specs.Tables.{Table, UniqueRules, UniqueDefinitions}
use Rattle.tables.specs.Lookup.{FoundRule, find_rule, find_body, matches}
use Rattle.tables.proofs.RuleLookup.{same_goal_lem, found_member, found↔rule}
use Rattle.tables.proofs.BodyLookup.{body_member, found↔definition}
use Rattle.hitac.specs.Validates.{AtMost256}
use Rattle.evaluation.specs.Outcomes.{found_premises, on_one, rule_gives, one_goal, no_goal, assert_gives, joined_fits}
use Rattle.evaluation.specs.Evaluates.{Evaluates, B-Atomic, B-Id, B-Label, B-Seq, B-Tensor, B-Empty, B-Alt-L, B-Alt-R, B-Assert, B-Def}
use Rattle.search.specs.Events.{Event, begun, found, FoundIn, here, later}
use Rattle.search.specs.Trace.{found_if, enter_if, in_label, then_right, found_joined, beside_right, splits, following, trace}
use Rattle.search.proofs.EventLaws.{finds_left, finds_right, finds_either, none_found, one_found, finds_each, each_finds}

module _ (T : Table) where
  -- SOUND

  abbrev Is : ℕ → List Goal → Term → Term → List Goal → Type 0
  Is = Evaluates T AtMost256

  -- of one that was found: its hiproof and its goals
  one_is : {i : ℕ} {g h k : List Goal} {t s r : Term} → Is i g t s h → found s h ≡ found r k → Is i g t r k
  one_is {i} {g} {h} {k} {t} {s} {r} e q =
      let p : s ≡ r = cc in
      let p' : h ≡ k = cc in
      subst (λ (x : Term). Is i g t x k) p (subst (λ (x : List Goal). Is i g t s x) p' e)

  leaf_is : {i : ℕ} {g h : List Goal} {t s : Term} {r : Term} (o : Option (List Goal)) → ((k : List Goal) → o ≡ some k → Is i g t s k) → FoundIn (found_if s o) r h → Is i g t r h
  leaf_is none f m = absurd (none_found m)
  leaf_is (some k) f m = one_is (f k refl) (one_found m)

  -- a form that takes exactly one goal
  on_one_lem : {i : ℕ} {t s : Term} (f : Goal → Option (List Goal)) → ((γ : Goal) (k : List Goal) → f γ ≡ some k → Is i (γ ∷ []) t s k) →
      (g k : List Goal) → on_one f g ≡ some k → Is i g t s k
  on_one_lem f one [] k q = let z : ◌≡◌ {A = ℕ} 0 1 = cc in absurd (omega arith)
  on_one_lem f one (γ ∷ []) k q = one γ k q
  on_one_lem f one (γ ∷ δ ∷ g) k q = let z : ◌≡◌ {A = ℕ} 0 1 = cc in absurd (omega arith)

  atomic_is : {i : ℕ} (a : RuleName) (γ : Goal) (k : List Goal) → found_premises (find_rule T a γ) ≡ some k → Is (suc i) (γ ∷ []) (atomic a) (atomic a) k
  atomic_is {i} a γ k q = go (find_rule T a γ) refl q
    where
      go : (o : Option FoundRule) → find_rule T a γ ≡ o → found_premises o ≡ some k → Is (suc i) (γ ∷ []) (atomic a) (atomic a) k
      go none p q = let z : ◌≡◌ {A = ℕ} 0 1 = cc in absurd (omega arith)
      go (some r) p q =
          let e : r.premises ≡ k = cc in
          subst (λ (x : List Goal). Is (suc i) (γ ∷ []) (atomic a) (atomic a) x) e (B-Atomic (found_member T a γ r.number r.premises p))

  id_is : {i : ℕ} (γ : Goal) (k : List Goal) → some (γ ∷ []) ≡ some k → Is (suc i) (γ ∷ []) id id k
  id_is {i} γ k q = let e : γ ∷ [] ≡ k = cc in subst (λ (x : List Goal). Is (suc i) (γ ∷ []) id id x) e B-Id

  empty_is : {i : ℕ} (g k : List Goal) → no_goal g ≡ some k → Is (suc i) g empty empty k
  empty_is {i} [] k q = let e : [] ≡ k = cc in subst (λ (x : List Goal). Is (suc i) [] empty empty x) e B-Empty
  empty_is (γ ∷ g) k q = let z : ◌≡◌ {A = ℕ} 0 1 = cc in absurd (omega arith)

  assert_is : {i : ℕ} (p γ : Goal) (k : List Goal) → cond (matches T p γ) (some (γ ∷ [])) none ≡ some k → Is (suc i) (γ ∷ []) (assert p) id k
  unfolding matches
  assert_is {i} p γ k q = go (matches T p γ) refl q
    where
      go : (x : Bool) → matches T p γ ≡ x → cond x (some (γ ∷ [])) none ≡ some k → Is (suc i) (γ ∷ []) (assert p) id k
      go true e q =
          let w : γ ∷ [] ≡ k = cc in
          subst (λ (x : List Goal). Is (suc i) (γ ∷ []) (assert p) id x) w (B-Assert (same_goal_lem p γ e))
      go false e q = let z : ◌≡◌ {A = ℕ} 0 1 = cc in absurd (omega arith)

  module _ (i : ℕ) (rec : (t : Term) (g : List Goal) (s : Term) (h : List Goal) → FoundIn (trace T i t g) s h → Is i g t s h) where
    label_is : (l : Label) (t : Term) (g : List Goal) {s : Term} {h : List Goal} → FoundIn (enter_if (one_goal g) λ k. in_label l (trace T i t k)) s h →
        Is (suc i) g (label l t) s h
    unfolding in_label
    label_is l t [] m = absurd (none_found m)
    label_is l t (γ ∷ []) m =
        let a = each_finds (trace T i t (γ ∷ [])) _ m in
        one_is (B-Label (rec t (γ ∷ []) a.first a.gave a.finds_first)) (one_found a.finds_next)
    label_is l t (γ ∷ δ ∷ g) m = absurd (none_found m)

    sequence_is : (t u : Term) (g : List Goal) {s : Term} {h : List Goal} → FoundIn (then_right (trace T i) u (trace T i t g)) s h → Is (suc i) g (sequence t u) s h
    unfolding then_right
    sequence_is t u g m =
        let a = each_finds (trace T i t g) _ m in
        let b = each_finds (trace T i u a.gave) _ a.finds_next in
        one_is (B-Seq (rec t g _ _ a.finds_first) (rec u a.gave _ _ b.finds_first)) (one_found b.finds_next)

    joined_is : (t u : Term) (g₁ g₂ : List Goal) {s₁ s₂ : Term} (h₁ h₂ : List Goal) {s : Term} {h : List Goal} → Is i g₁ t s₁ h₁ → Is i g₂ u s₂ h₂ →
        FoundIn (found_joined s₁ h₁ s₂ h₂) s h → Is (suc i) (g₁ ++ g₂) (tensor t u) s h
    joined_is t u g₁ g₂ {s₁} {s₂} h₁ h₂ {s} {h} e₁ e₂ m = go (joined_fits (h₁ ++ h₂)) refl m
      where
        go : (x : Bool) → joined_fits (h₁ ++ h₂) ≡ x → FoundIn (cond x (found (tensor s₁ s₂) (h₁ ++ h₂) ∷ []) []) s h → Is (suc i) (g₁ ++ g₂) (tensor t u) s h
        go true q m = one_is (B-Tensor {h₁ = h₁} {h₂ = h₂} e₁ e₂ (leb-true (length (h₁ ++ h₂)) 256 q)) (one_found m)
        go false q m = absurd (none_found m)

    beside_is : (t u : Term) (g₁ g₂ : List Goal) {s : Term} {h : List Goal} → FoundIn (beside_right (trace T i) u g₂ (trace T i t g₁)) s h →
        Is (suc i) (g₁ ++ g₂) (tensor t u) s h
    unfolding beside_right
    beside_is t u g₁ g₂ m =
        let a = each_finds (trace T i t g₁) _ m in
        let b = each_finds (trace T i u g₂) _ a.finds_next in
        joined_is t u g₁ g₂ a.gave b.gave (rec t g₁ _ _ a.finds_first) (rec u g₂ _ _ b.finds_first) b.finds_next

    splits_is : (t u : Term) (g₁ g₂ : List Goal) {s : Term} {h : List Goal} → FoundIn (splits (trace T i) t u g₁ g₂) s h → Is (suc i) (g₁ ++ g₂) (tensor t u) s h
    unfolding splits
    splits_is t u g₁ [] m = beside_is t u g₁ [] m
    splits_is t u g₁ (γ ∷ g₂) {s} {h} m =
        go (finds_either (beside_right (trace T i) u (γ ∷ g₂) (trace T i t g₁)) (splits (trace T i) t u (g₁ ++ (γ ∷ [])) g₂) m)
        (λ n. splits_is t u (g₁ ++ (γ ∷ [])) g₂ n)
      where
        go : FoundIn (beside_right (trace T i) u (γ ∷ g₂) (trace T i t g₁)) s h ⊎ FoundIn (splits (trace T i) t u (g₁ ++ (γ ∷ [])) g₂) s h →
            (FoundIn (splits (trace T i) t u (g₁ ++ (γ ∷ [])) g₂) s h → Is (suc i) (g₁ ++ (γ ∷ []) ++ g₂) (tensor t u) s h) →
            Is (suc i) (g₁ ++ (γ ∷ g₂)) (tensor t u) s h
        go (inl n) rec = beside_is t u g₁ (γ ∷ g₂) n
        go (inr n) rec = subst (λ (x : List Goal). Is (suc i) x (tensor t u) s h) (append_assoc g₁ (γ ∷ []) g₂) (rec n)

    alternation_is : (t u : Term) (g : List Goal) {s : Term} {h : List Goal} → FoundIn (trace T i t g ++ trace T i u g) s h → Is (suc i) g (alternation t u) s h
    alternation_is t u g {s} {h} m = go (finds_either (trace T i t g) (trace T i u g) m)
      where
        go : FoundIn (trace T i t g) s h ⊎ FoundIn (trace T i u g) s h → Is (suc i) g (alternation t u) s h
        go (inl n) = B-Alt-L (rec t g s h n)
        go (inr n) = B-Alt-R (rec u g s h n)

    defined_is : (d : TacticNo) (g : List Goal) {s : Term} {h : List Goal} → FoundIn (enter_if (find_body T d) λ t. trace T i t g) s h → Is (suc i) g (defined d) s h
    defined_is d g {s} {h} m = go (find_body T d) refl m
      where
        go : (o : Option Term) → find_body T d ≡ o → FoundIn (enter_if o λ t. trace T i t g) s h → Is (suc i) g (defined d) s h
        go none q n = absurd (none_found n)
        go (some t) q n = B-Def (body_member T d t q) (rec t g s h n)

    following_is : (t : Term) (g : List Goal) (s : Term) (h : List Goal) → FoundIn (following T (trace T i) t g) s h → Is (suc i) g t s h
    unfolding following
    following_is (atomic a) g s h m = leaf_is (rule_gives T a g) (on_one_lem _ (atomic_is a) g) m
    following_is id g s h m = leaf_is (one_goal g) (on_one_lem _ id_is g) m
    following_is (label l t) g s h m = label_is l t g m
    following_is (sequence t u) g s h m = sequence_is t u g m
    following_is (tensor t u) g s h m = splits_is t u [] g m
    following_is empty g s h m = leaf_is (no_goal g) (empty_is g) m
    following_is (alternation t u) g s h m = alternation_is t u g m
    following_is (assert p) g s h m = leaf_is (assert_gives T p g) (on_one_lem _ (assert_is p) g) m
    following_is (defined d) g s h m = defined_is d g m

  begun_then : {es : List Event} {s : Term} {g : List Goal} → FoundIn (begun ∷ es) s g → FoundIn es s g
  begun_then (later m) = m

  -- what the search finds, Fig. 3 derives
  pub found_evaluates : (i : ℕ) (t : Term) (g : List Goal) (s : Term) (h : List Goal) → FoundIn (trace T i t g) s h → Evaluates T AtMost256 i g t s h
  unfolding trace
  found_evaluates zero t g s h m = absurd (none_found m)
  found_evaluates (suc i) t g s h m = following_is i (found_evaluates i) t g s h (begun_then m)

  -- COMPLETE

  module _ (i : ℕ) (t u : Term) {s : Term} {h : List Goal} where
    splits_first : (g₁ g₂ : List Goal) → FoundIn (beside_right (trace T i) u g₂ (trace T i t g₁)) s h → FoundIn (splits (trace T i) t u g₁ g₂) s h
    unfolding splits
    splits_first g₁ [] m = m
    splits_first g₁ (γ ∷ g₂) m = finds_left _ m

    -- the left part grown by what the right part begins with
    splits_find : (g₀ g₁ g₂ : List Goal) → FoundIn (beside_right (trace T i) u g₂ (trace T i t (g₀ ++ g₁))) s h → FoundIn (splits (trace T i) t u g₀ (g₁ ++ g₂)) s h
    unfolding splits
    splits_find g₀ [] g₂ m = splits_first g₀ g₂ (subst (λ (x : List Goal). FoundIn (beside_right (trace T i) u g₂ (trace T i t x)) s h) (append-nil g₀) m)
    splits_find g₀ (γ ∷ g₁) g₂ m =
        finds_right (beside_right (trace T i) u (γ ∷ (g₁ ++ g₂)) (trace T i t g₀))
        (splits_find (g₀ ++ (γ ∷ [])) g₁ g₂ (subst (λ (x : List Goal). FoundIn (beside_right (trace T i) u g₂ (trace T i t x)) s h) (sym (append_assoc g₀ (γ ∷ []) g₁)) m))

  joined_found : {s r : Term} (g h : List Goal) → length (g ++ h) ≤ 256 → FoundIn (found_joined s g r h) (tensor s r) (g ++ h)
  joined_found {s} {r} g h l = subst (λ (x : Bool). FoundIn (cond x (found (tensor s r) (g ++ h) ∷ []) []) (tensor s r) (g ++ h)) (sym (le-leb (length (g ++ h)) 256 l)) here

  leaf_found : {s : Term} {h : List Goal} (o : Option (List Goal)) → o ≡ some h → FoundIn (found_if s o) s h
  leaf_found {s} {h} o q = subst (λ (x : Option (List Goal)). FoundIn (found_if s x) s h) (sym q) here

  module _ (rules : UniqueRules T) (definitions : UniqueDefinitions T) where
    -- what Fig. 3 derives, the search finds
    pub evaluates_found : {i : ℕ} {g h : List Goal} {t s : Term} → Evaluates T AtMost256 i g t s h → FoundIn (trace T i t g) s h
    unfolding trace following in_label then_right beside_right matches
    evaluates_found (B-Atomic {a = a} {γ = γ} {h = h} m) = later (leaf_found _ (ap found_premises ((found↔rule T a γ rules h).1 m).1))
    evaluates_found B-Id = later here
    evaluates_found (B-Label e) = later (finds_each _ (evaluates_found e) here)
    evaluates_found (B-Seq e e') = later (finds_each _ (evaluates_found e) (finds_each _ (evaluates_found e') here))
    evaluates_found (B-Tensor {i = i} {t = t} {u = u} {g₁ = g₁} {g₂ = g₂} {h₁ = h₁} {h₂ = h₂} e e' l) =
        later (splits_find i t u [] g₁ g₂ (finds_each _ (evaluates_found e) (finds_each _ (evaluates_found e') (joined_found h₁ h₂ l))))
    evaluates_found B-Empty = later here
    evaluates_found (B-Alt-L e) = later (finds_left _ (evaluates_found e))
    evaluates_found (B-Alt-R {i = i} {t = t} {g = g} e) = later (finds_right (trace T i t g) (evaluates_found e))
    evaluates_found (B-Assert {p = p} {γ = γ} q) = later (leaf_found _ (ap (λ (x : Bool). cond x (some (γ ∷ [])) none) (matches_self q)))
      where
        matches_self : {p γ : Goal} → p ≡ γ → matches T p γ ≡ true
        matches_self {p} {γ} q = subst (λ (x : Goal). matches T p x ≡ true) q (eq-eqb p.0 p.0 refl)
    evaluates_found (B-Def {i = i} {d = d} {t = t} {s = s} {g = g} {h = h} m e) =
        later (subst (λ (o : Option Term). FoundIn (enter_if o λ u. trace T i u g) s h) (sym ((found↔definition T d definitions t).1 m)) (evaluates_found e))

    -- FINDS: an evaluation is among the search's events exactly if Fig. 3 derives it, at most so many rules high and with no joined list over 256.
    pub finds↔evaluates : (i : ℕ) (t : Term) (g : List Goal) (s : Term) (h : List Goal) → FoundIn (trace T i t g) s h ↔ Evaluates T AtMost256 i g t s h
    finds↔evaluates i t g s h = (found_evaluates i t g s h, evaluates_found)
