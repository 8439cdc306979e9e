-- The goals of a walk, where every rule has at most 8 premises: those given, and those live at each call of a walk on two stacks, failing walks too.
-- An atomic takes one goal and gives at most 8, so each adds at most 7; the rest is induction over Fig. 2, and over the calls. Assumes nothing.
use Prim.Native.Nat.{ℕ, zero, suc, ◌+◌, ◌*◌, ◌-◌, ◌≤◌}
use native.Mathlib.Omega.{arith}
use mathlib.Core.Path.{◌≡◌, refl, sym, ap, ◌∙◌, subst}
use mathlib.Core.Bool.{cond}
use mathlib.Core.Logic.{◌⊎◌, inl, inr, ⊎_elim}
use mathlib.Core.List.{List, [], ◌∷◌, ◌++◌}
use lib.Dec.{ltb}
use lib.ListN.{length, take, drop, length-append, length-drop}
use lib.Seq.{length-take-le}
use borrow.Author.Tests.{ltb-false}
use Rattle.format.specs.declared.values.RuleName.{RuleName}
use Rattle.format.specs.declared.values.Goal.{Goal}
use Rattle.format.specs.declared.values.Label.{Label}
use Rattle.format.specs.Limits.{most_joined}
use Rattle.format.specs.declared.refusals.Cause.{Cause}
use Rattle.format.specs.declared.refusals.Cause.TheVariants.{JoinedTooLong}
use Rattle.format.specs.Results.{Result, gives, refused, and_then}
use Rattle.format.specs.Terms.{Term, atomic, id, label, sequence, tensor, empty, alternation, assert, defined, size}
use Rattle.tables.specs.Tables.{Table}
use Rattle.tables.specs.Lookup.{find_rule}
use Rattle.tables.proofs.RuleLookup.{found_member}
use Rattle.hitac.specs.Hiproofs.{input_arity, atomics}
use Rattle.hitac.specs.Premises.{Finds, FewPremises}
use Rattle.hitac.specs.Validates.{System, Validates, V-Atomic, V-Identity, V-Label, V-Sequence, V-Tensor, V-Empty}
use Rattle.hitac.specs.Walk.{walk}
use Rattle.hitac.proofs.ResultLaws.{refused_gives, gives_refused, gives_gives, refused_place, and_then_refused, test_refused, premises_refused}
use Rattle.hitac.proofs.ValidatesLaws.{validates_length}
use Rattle.hitac.proofs.WalkValidates.{finds_agrees, walk→validates}
use Rattle.hitac.proofs.Stacks.{Stacks, held, settled, take_one_goal, take_no_goal, stacks, stacks_walk}

-- a system whose rules have at most 8 premises, as `FewPremises` says of a table
abbrev pub FewPremisesIn : System → Type 0
FewPremisesIn S = (a : RuleName) (γ : Goal) (h : List Goal) → S a γ h → length h ≤ 8

pub few_found : (T : Table) → FewPremises T → FewPremisesIn (Finds T)
few_found T few a γ h e = few a γ h (found_member T a γ e.0 h e.1)

-- GOALS GIVEN: each atomic field adds at most seven goals.
pub validates_grows : {S : System} {Fits : List Goal → Type 0} → FewPremisesIn S
    → {s : Term} {g h : List Goal} → Validates S Fits s g h → length h ≤ length g + 7 * atomics s
unfolding atomics
validates_grows few (V-Atomic {a = a} {γ = γ} {h = h} e) = omega (arith, few a γ h e)
validates_grows few V-Identity = omega arith
validates_grows few (V-Label v) = validates_grows few v
validates_grows few (V-Sequence v w) = omega (arith, validates_grows few v, validates_grows few w)
validates_grows few (V-Tensor {g₁ = g₁} {g₂ = g₂} {h₁ = h₁} {h₂ = h₂} v w l) =
    omega (arith, validates_grows few v, validates_grows few w, length-append g₁ g₂, length-append h₁ h₂)
validates_grows few V-Empty = omega arith

module _ (T : Table) (few : FewPremises T) where
  pub walk_grows : (s : Term) (p : ℕ) (g : List Goal) {h : List Goal} → walk T s p g ≡ gives h → length h ≤ length g + 7 * atomics s
  walk_grows s p g e = validates_grows (few_found T few) (walk→validates T (Finds T) (finds_agrees T) s p g e)

  -- and no walk gives more than 256.
  pub walk-length : (s : Term) (p : ℕ) (g : List Goal) {h : List Goal} → walk T s p g ≡ gives h → length h ≤ 256
  walk-length s p g e =
      validates_length (λ a γ k m. omega (arith, few_found T few a γ k m)) (walk→validates T (Finds T) (finds_agrees T) s p g e)

-- THE TWO STACKS: what is held after a term.
pub record Held (k : ℕ) (I O J P : List Goal) (atomicFields : ℕ) : Type 0 where
  pub fewer : length J + k ≡ length I
  pub more : length O ≤ length P
  pub live : length J + length P ≤ length I + length O + 7 * atomicFields

settled-held : {K : List Goal} (O : List Goal) {J P : List Goal} (r : Result (List Goal)) → settled K O r ≡ held J P → (h : List Goal) × (r ≡ gives h) × (K ≡ J) × (O ++ h ≡ P)
settled-held O (gives h) e =
    let f = gives_gives e in
    (h, refl, ap (λ (x : Stacks). x.inputs) f, ap (λ (x : Stacks). x.outputs) f)
settled-held O (refused c p) e = absurd (refused_gives e)

pub stacks_held : (T : Table) → FewPremises T → (s : Term) (p k : ℕ) (I O : List Goal) {J P : List Goal} → k ≤ length I → stacks T s p k I O ≡ held J P
    → Held k I O J P (atomics s)
stacks_held T few s p k I O l e =
    let (h, w, j, o) = settled-held O (walk T s p (take k I)) (sym (stacks_walk T s p k I O l) ∙ e) in
    let jl = ap length j in
    let ol = ap length o in
    record {
      fewer = omega (arith, length-drop k I);
      more = omega (arith, length-append O h);
      live = omega (arith, length-append O h, length-drop k I, walk_grows T few s p (take k I) w, length-take-le k I l);
    }

-- `Calls T s p k I O n t q j J P`: while s at p takes k goals of the inputs I, with the outputs O, the term t at q is called to take j goals of the
-- inputs J, with the outputs P, after n atomic fields. Whether t then gives goals or refuses, and whether s does, is not said: so this holds in failing walks too.
pub data Calls (T : Table) : Term → ℕ → ℕ → List Goal → List Goal → ℕ → Term → ℕ → ℕ → List Goal → List Goal → Type 0 where
  C-Itself : {s : Term} {p k : ℕ} {I O : List Goal} → Calls T s p k I O 0 s p k I O
  C-Label : {l : Label} {s t : Term} {p n q j : ℕ} {I O J P : List Goal} → Calls T s (p + 5) 1 I O n t q j J P → Calls T (label l s) p 1 I O n t q j J P
  C-Sequence-Left : {s u t : Term} {p k n q j : ℕ} {I O J P : List Goal} → Calls T s (p + 3) k I O n t q j J P → Calls T (sequence s u) p k I O n t q j J P
  C-Sequence-Right : {s u t : Term} {p k n q j : ℕ} {I O L M J P : List Goal} → stacks T s (p + 3) k I O ≡ held L M
      → Calls T u (p + 3 + size s) (length M - length O) (drop (length O) M ++ L) (take (length O) M) n t q j J P
      → Calls T (sequence s u) p k I O (atomics s + n) t q j J P
  C-Tensor-Left : {s u t : Term} {p k n q j : ℕ} {I O J P : List Goal} → input_arity s ≤ k → Calls T s (p + 3) (input_arity s) I O n t q j J P
      → Calls T (tensor s u) p k I O n t q j J P
  C-Tensor-Right : {s u t : Term} {p k n q j : ℕ} {I O L M J P : List Goal} → input_arity s ≤ k → stacks T s (p + 3) (input_arity s) I O ≡ held L M
      → Calls T u (p + 3 + size s) (k - input_arity s) L M n t q j J P → Calls T (tensor s u) p k I O (atomics s + n) t q j J P

-- LIVE GOALS: at each call there are the goals to take, at most 7 live goals more for each atomic field walked so far, and those fields and
-- the called term's are at most the whole term's.
pub record CallBound (s : Term) (I O : List Goal) (n : ℕ) (t : Term) (j : ℕ) (J P : List Goal) : Type 0 where
  pub there : j ≤ length J
  pub live : length J + length P ≤ length I + length O + 7 * n
  pub walked : n + atomics t ≤ atomics s

pub call_bound : (T : Table) → FewPremises T → {s : Term} {p k : ℕ} {I O : List Goal} {n : ℕ} {t : Term} {q j : ℕ} {J P : List Goal} → k ≤ length I
    → Calls T s p k I O n t q j J P → CallBound s I O n t j J P
unfolding atomics
call_bound T few l C-Itself = record { there = l; live = omega arith; walked = omega arith }
call_bound T few l (C-Label c) = let b = call_bound T few l c in record { there = b.there; live = b.live; walked = b.walked }
call_bound T few l (C-Sequence-Left c) = let b = call_bound T few l c in record { there = b.there; live = b.live; walked = omega arith }
call_bound T few {p = p} {k = k} {I = I} {O = O} l (C-Sequence-Right {s = s} {L = L} {M = M} e c) =
    let h = stacks_held T few s (p + 3) k I O l e in
    let d = length-append (drop (length O) M) L in
    let f = length-drop (length O) M in
    let m = length-take-le (length O) M h.more in
    let b = call_bound T few (omega arith) c in
    record { there = b.there; live = omega arith; walked = omega arith }
call_bound T few l (C-Tensor-Left a c) = let b = call_bound T few (omega arith) c in record { there = b.there; live = b.live; walked = omega arith }
call_bound T few {p = p} {I = I} {O = O} l (C-Tensor-Right {s = s} a e c) =
    let h = stacks_held T few s (p + 3) (input_arity s) I O (omega arith) e in
    let b = call_bound T few (omega arith) c in
    record { there = b.there; live = omega arith; walked = omega arith }

-- From at most 256 stated goals: at most 256 + 7 × the atomic fields walked so far.
pub live_goals : (T : Table) → FewPremises T → {s : Term} {p : ℕ} {g : List Goal} {n : ℕ} {t : Term} {q j : ℕ} {J P : List Goal} → length g ≤ 256
    → Calls T s p (length g) g [] n t q j J P → length J + length P ≤ 256 + 7 * n
live_goals T few {g = g} l c = let b = call_bound T few {k = length g} (omega arith) c in omega arith

-- Where a walk on two stacks is refused, the refusal's place is that of a term that was called: so the bound holds there.
pub record Called (T : Table) (s : Term) (p k : ℕ) (I O : List Goal) (q : ℕ) : Type 0 where
  pub before : ℕ
  pub term : Term
  pub count : ℕ
  pub inputs : List Goal
  pub outputs : List Goal
  pub call : Calls T s p k I O before term q count inputs outputs

called_here : {T : Table} {s : Term} {p k : ℕ} {I O : List Goal} {q : ℕ} → p ≡ q → Called T s p k I O q
called_here {T} {s} {p} {k} {I} {O} e =
    subst (Called T s p k I O) e (record { before = 0; term = s; count = k; inputs = I; outputs = O; call = C-Itself })

-- a call inside an inner term is a call inside the whole
called_inside : {T : Table} {s u : Term} {p k p' k' : ℕ} {I O I' O' : List Goal} {q : ℕ} (walked : ℕ → ℕ)
    → ((n : ℕ) (t : Term) (j : ℕ) (J P : List Goal) → Calls T s p k I O n t q j J P → Calls T u p' k' I' O' (walked n) t q j J P)
    → Called T s p k I O q → Called T u p' k' I' O' q
called_inside walked lift r =
    record {
      before = walked r.before;
      term = r.term;
      count = r.count;
      inputs = r.inputs;
      outputs = r.outputs;
      call = lift r.before r.term r.count r.inputs r.outputs r.call;
    }

one_goal_stopped : (p k : ℕ) (I : List Goal) (next : Goal → List Goal → Result Stacks) {c : Cause} {q : ℕ} → take_one_goal p k I next ≡ refused c q
    → (p ≡ q) ⊎ ((γ : Goal) × (J : List Goal) × (k ≡ 1) × (next γ J ≡ refused c q))
one_goal_stopped p zero I next e = inl (refused_place e)
one_goal_stopped p (suc zero) [] next e = inl (refused_place e)
one_goal_stopped p (suc zero) (γ ∷ I) next e = inr (γ, I, refl, e)
one_goal_stopped p (suc (suc k)) I next e = inl (refused_place e)

no_goal_stopped : (p k : ℕ) (r : Stacks) {c : Cause} {q : ℕ} → take_no_goal p k (gives r) ≡ refused c q → p ≡ q
no_goal_stopped p zero r e = absurd (gives_refused e)
no_goal_stopped p (suc k) r e = refused_place e

settled_refused : (J O : List Goal) {c : Cause} {q : ℕ} (r : Result (List Goal)) → settled J O r ≡ refused c q → r ≡ refused c q
settled_refused J O (gives h) e = absurd (gives_refused e)
settled_refused J O (refused d m) e = cc

-- a part of a tensor refused, or its joined list
tensor_called : (T : Table) (s t : Term) (p k : ℕ) (I O : List Goal) {c : Cause} {q : ℕ} → input_arity s ≤ k
    → (stacks T s (p + 3) (input_arity s) I O ≡ refused c q → Called T s (p + 3) (input_arity s) I O q)
    → ((L M : List Goal) → stacks T t (p + 3 + size s) (k - input_arity s) L M ≡ refused c q → Called T t (p + 3 + size s) (k - input_arity s) L M q)
    → and_then (stacks T s (p + 3) (input_arity s) I O)
    (λ x. and_then (stacks T t (p + 3 + size s) (k - input_arity s) x.inputs x.outputs)
    (λ y. cond (ltb most_joined (length y.outputs - length O)) (refused JoinedTooLong p) (gives y)))
    ≡ refused c q
    → Called T (tensor s t) p k I O q
tensor_called T s t p k I O a left right e =
    ⊎_elim
    (λ x. called_inside (λ n. n) (λ n u j J P c. C-Tensor-Left a c) (left x))
    (λ x. ⊎_elim
    (λ y. called_inside (λ n. atomics s + n) (λ n u j J P c. C-Tensor-Right a x.1 c) (right x.0.inputs x.0.outputs y))
    (λ y. ⊎_elim (λ z. called_here z.2) (λ z. absurd (gives_refused z.1)) (test_refused (ltb most_joined (length y.0.outputs - length O)) y.2))
    (and_then_refused _ x.2))
    (and_then_refused _ e)

pub refused_called : (T : Table) (s : Term) (p k : ℕ) (I O : List Goal) {c : Cause} {q : ℕ} → stacks T s p k I O ≡ refused c q → Called T s p k I O q
unfolding stacks
refused_called T (atomic a) p k I O e =
    ⊎_elim
    called_here
    (λ x. called_here (premises_refused (find_rule T a x.0) (settled_refused x.1 O _ x.3)).2)
    (one_goal_stopped p k I _ e)
refused_called T id p k I O e = ⊎_elim called_here (λ x. absurd (gives_refused x.3)) (one_goal_stopped p k I _ e)
refused_called T (label l s) p k I O {q = q} e =
    ⊎_elim
    called_here
    (λ x. subst
    (λ (j : ℕ). Called T (label l s) p j I O q)
    (sym x.2)
    (called_inside (λ n. n) (λ n u j J P c. C-Label c) (refused_called T s _ 1 I O x.3)))
    (one_goal_stopped p k I _ e)
refused_called T (sequence s t) p k I O e =
    ⊎_elim
    (λ x. called_inside (λ n. n) (λ n u j J P c. C-Sequence-Left c) (refused_called T s _ k I O x))
    (λ x.
    let (y, d, f) = x in
    called_inside
    (λ n. atomics s + n)
    (λ n u j J P c. C-Sequence-Right d c)
    (refused_called T t _ (length y.outputs - length O) (drop (length O) y.outputs ++ y.inputs) (take (length O) y.outputs) f))
    (and_then_refused _ e)
refused_called T (tensor s t) p k I O e =
    ⊎_elim
    (λ x. called_here x.2)
    (λ x. tensor_called T s t p k I O (ltb-false k (input_arity s) x.0) (λ y. refused_called T s _ _ I O y) (λ L M y. refused_called T t _ _ L M y) x.1)
    (test_refused (ltb k (input_arity s)) e)
refused_called T empty p k I O e = called_here (no_goal_stopped p k _ e)
refused_called T (alternation s t) p k I O e = called_here (refused_place e)
refused_called T (assert γ) p k I O e = called_here (refused_place e)
refused_called T (defined n) p k I O e = called_here (refused_place e)
