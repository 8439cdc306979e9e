-- The walk over the entries gives k exactly where they derive k, and is refused exactly at the first entry that does not apply.
-- From the rules by induction over the derivation; to them by induction over the entries. Assumes nothing.
use Prim.Native.Nat.{ℕ, ◌+◌}
use native.Mathlib.Omega.{arith}
use mathlib.Core.Path.{◌≡◌, refl, sym, ap, ◌∙◌, subst}
use mathlib.Core.Bool.{Bool, true, false, cond}
use mathlib.Core.Logic.{◌⊎◌, inl, inr, ⊎_elim, ◌↔◌}
use mathlib.Core.List.{List, [], ◌∷◌, ◌++◌, append-nil}
use borrow.Author.Tests.{eqb-false, eq-eqb, ne_eqb}
use Rattle.format.specs.declared.values.Goal.{Goal}
use Rattle.format.specs.declared.refusals.Cause.{Cause}
use Rattle.format.specs.declared.refusals.Cause.TheVariants.{EntryWrong}
use Rattle.format.specs.Results.{Result, gives, refused, and_then}
use Rattle.tables.specs.Tables.{Table, HasRule, UniqueRules}
use Rattle.tables.specs.Lookup.{find_rule, same_goal}
use Rattle.tables.proofs.RuleLookup.{same_goal_lem}
use Rattle.files.specs.Derivations.{Entry, use_entry, open_entry}
use Rattle.hitac.specs.Premises.{Finds}
use Rattle.hitac.specs.Validates.{System}
use Rattle.hitac.specs.Walk.{premises_or}
use Rattle.hitac.specs.FlatWalk.{flat_walk}
use Rattle.hitac.specs.Derives.{Derives, D-End, D-Open, D-Use}
use Rattle.hitac.specs.FirstWrong.{Unfit, U-Nothing-Pending, U-Open-Other, U-Use-Other, U-Use-Rule, entries_size, FirstWrong, U-First}
use Rattle.hitac.proofs.ResultLaws.{refused_gives, gives_refused, gives_gives, refused_cause, refused_place, and_then_gives, and_then_refused, premises_give, premises_refused}
use Rattle.hitac.proofs.WalkValidates.{Agrees, finds_agrees, rules_agree, no_rule→missing, missing→no_rule}

-- the test of the goal, which goes on where it holds
goal_gives : {r : Result (List Goal)} (p : ℕ) {k : List Goal} (b : Bool) → cond b r (refused EntryWrong p) ≡ gives k → (b ≡ true) × (r ≡ gives k)
goal_gives p true e = (refl, e)
goal_gives p false e = absurd (refused_gives e)

goal_refused : {r : Result (List Goal)} {c : Cause} {p q : ℕ} (b : Bool) → cond b r (refused EntryWrong p) ≡ refused c q
    → ((b ≡ true) × (r ≡ refused c q)) ⊎ ((b ≡ false) × (EntryWrong ≡ c) × (p ≡ q))
goal_refused true e = inl (refl, e)
goal_refused false e = inr (refl, refused_cause e, refused_place e)

other_goal : (γ δ : Goal) → same_goal γ δ ≡ false → γ ≡ δ → ⊥
other_goal γ δ t e = eqb-false γ.0 δ.0 t (ap (λ (x : Goal). x.0) e)

goal_other : (γ δ : Goal) → (γ ≡ δ → ⊥) → same_goal γ δ ≡ false
goal_other γ δ z = ne_eqb γ.0 δ.0 (λ e. z (λ i. record { 0 = e i }))

module _ (T : Table) (S : System) (agrees : Agrees T S) where
  -- Entries that apply are passed over, whatever follows them.
  pub derives→flat_walk : {g k : List Goal} {es : List Entry} → Derives S g es k → (p : ℕ) (fs : List Entry)
      → flat_walk T p g (es ++ fs) ≡ flat_walk T (p + entries_size es) k fs
  unfolding flat_walk and_then premises_or
  derives→flat_walk (D-End {g = g}) p fs = ap (λ (q : ℕ). flat_walk T q g fs) (omega arith)
  derives→flat_walk (D-Open {γ = γ} {k = k} d) p fs =
      rw (eq-eqb γ.0 γ.0 refl) (derives→flat_walk d (p + 5) fs ∙ ap (λ (q : ℕ). flat_walk T q k fs) (omega arith))
  derives→flat_walk (D-Use {a = a} {γ = γ} {h = h} {k = k} e d) p fs =
      rw (eq-eqb γ.0 γ.0 refl, ((agrees a γ h).1 e).1) (derives→flat_walk d (p + 7) fs ∙ ap (λ (q : ℕ). flat_walk T q k fs) (omega arith))

  pub derives→gives : {g k : List Goal} {es : List Entry} → Derives S g es k → (p : ℕ) → flat_walk T p g es ≡ gives k
  unfolding flat_walk
  derives→gives {es = es} d p = rw (append-nil es) at (derives→flat_walk d p [])

  pub flat_walk→derives : (p : ℕ) (g : List Goal) (es : List Entry) {k : List Goal} → flat_walk T p g es ≡ gives k → Derives S g es k
  unfolding flat_walk
  flat_walk→derives p g [] e = rw (← gives_gives e) D-End
  flat_walk→derives p [] (x ∷ es) e = absurd (refused_gives e)
  flat_walk→derives p (δ ∷ g) (open_entry γ ∷ es) e =
      let (b, f) = goal_gives p (same_goal γ δ) e in
      rw (← same_goal_lem γ δ b) (D-Open (flat_walk→derives (p + 5) g es f))
  flat_walk→derives p (δ ∷ g) (use_entry a γ ∷ es) e =
      let (b, f) = goal_gives p (same_goal γ δ) e in
      let (h, c, d) = and_then_gives _ f in
      rw (← same_goal_lem γ δ b) (D-Use ((agrees a γ h).0 (premises_give _ _ (find_rule T a γ) c)) (flat_walk→derives (p + 7) (h ++ g) es d))

  -- An entry that does not apply is refused at its place.
  unfit_refused : {k : List Goal} {e : Entry} → Unfit S k e → (p : ℕ) (fs : List Entry) → flat_walk T p k (e ∷ fs) ≡ refused EntryWrong p
  unfolding flat_walk and_then premises_or
  unfit_refused (U-Nothing-Pending {e = use_entry a γ}) p fs = refl
  unfit_refused (U-Nothing-Pending {e = open_entry γ}) p fs = refl
  unfit_refused (U-Open-Other {γ = γ} {δ = δ} z) p fs = rw (goal_other γ δ z)
  unfit_refused (U-Use-Other {γ = γ} {δ = δ} z) p fs = rw (goal_other γ δ z)
  unfit_refused (U-Use-Rule {a = a} {γ = γ} z) p fs = rw (eq-eqb γ.0 γ.0 refl, no_rule→missing T S agrees a γ z)

  pub first_wrong→flat_walk : {p : ℕ} {g : List Goal} {es : List Entry} {q : ℕ} → FirstWrong S p g es q → flat_walk T p g es ≡ refused EntryWrong q
  first_wrong→flat_walk (U-First {p = p} {es = es} fs d u) = derives→flat_walk d p _ ∙ unfit_refused u (p + entries_size es) fs

  -- one entry more in front of the first wrong one
  behind : {p next : ℕ} {g h : List Goal} {es : List Entry} {q : ℕ} (e : Entry) → next ≡ p + entries_size (e ∷ []) → ((k : List Goal) (fs : List Entry) → Derives S h fs k → Derives S g (e ∷ fs) k)
      → FirstWrong S next h es q → FirstWrong S p g (e ∷ es) q
  behind {p} {next} {g} (use_entry a γ) i f (U-First {k = k} {es = es} {e = x} fs d u) =
      subst (FirstWrong S p g (use_entry a γ ∷ es ++ x ∷ fs)) (omega arith) (U-First {p = p} fs (f k es d) u)
  behind {p} {next} {g} (open_entry γ) i f (U-First {k = k} {es = es} {e = x} fs d u) =
      subst (FirstWrong S p g (open_entry γ ∷ es ++ x ∷ fs)) (omega arith) (U-First {p = p} fs (f k es d) u)

  -- the first entry is the wrong one
  wrong_here : {p : ℕ} {g : List Goal} {e : Entry} (es : List Entry) {q : ℕ} → Unfit S g e → p ≡ q → FirstWrong S p g (e ∷ es) q
  wrong_here {p} {g} {e} es u i = subst (FirstWrong S p g (e ∷ es)) (omega arith) (U-First {p = p} {es = []} es D-End u)

  pub flat_walk→first_wrong : (p : ℕ) (g : List Goal) (es : List Entry) {c : Cause} {q : ℕ} → flat_walk T p g es ≡ refused c q → FirstWrong S p g es q
  unfolding flat_walk
  flat_walk→first_wrong p g [] e = absurd (gives_refused e)
  flat_walk→first_wrong p [] (x ∷ es) e = wrong_here es U-Nothing-Pending (refused_place e)
  flat_walk→first_wrong p (δ ∷ g) (open_entry γ ∷ es) {q = q} e =
      ⊎_elim
      (λ x. subst (λ (z : Goal). FirstWrong S p (z ∷ g) (open_entry γ ∷ es) q) (same_goal_lem γ δ x.0) (behind (open_entry γ) (omega arith) (λ k fs d. D-Open d) (flat_walk→first_wrong (p + 5) g es x.1)))
      (λ x. wrong_here es (U-Open-Other (other_goal γ δ x.0)) x.2)
      (goal_refused (same_goal γ δ) e)
  flat_walk→first_wrong p (δ ∷ g) (use_entry a γ ∷ es) {q = q} e =
      ⊎_elim
      (λ x. subst
      (λ (z : Goal). FirstWrong S p (z ∷ g) (use_entry a γ ∷ es) q)
      (same_goal_lem γ δ x.0)
      (⊎_elim
      (λ y. let (m, c, i) = premises_refused (find_rule T a γ) y in wrong_here es (U-Use-Rule (missing→no_rule T S agrees a γ m)) i)
      (λ y.
      let (h, d, f) = y in
      behind (use_entry a γ) (omega arith) (λ k fs x. D-Use ((agrees a γ h).0 (premises_give _ _ (find_rule T a γ) d)) x) (flat_walk→first_wrong (p + 7) (h ++ g) es f))
      (and_then_refused _ x.1)))
      (λ x. wrong_here es (U-Use-Other (other_goal γ δ x.0)) x.2)
      (goal_refused (same_goal γ δ) e)

module _ (T : Table) (unique : UniqueRules T) (p : ℕ) (g : List Goal) (es : List Entry) where
  -- THE FLAT-DERIVATION CHECKER'S MEANING: the walk ends with k pending exactly where the entries derive k.
  pub flat_walk↔derives : (k : List Goal) → (flat_walk T p g es ≡ gives k) ↔ Derives (HasRule T) g es k
  flat_walk↔derives k = (
    flat_walk→derives T (HasRule T) (rules_agree T unique) p g es,
    (λ d. derives→gives T (HasRule T) (rules_agree T unique) d p),
  )

  -- AND ITS REFUSALS: the walk is refused at q exactly where the first entry that does not apply is at q; there is no other cause.
  pub flat_walk↔first_wrong : (q : ℕ) → (flat_walk T p g es ≡ refused EntryWrong q) ↔ FirstWrong (HasRule T) p g es q
  flat_walk↔first_wrong q = (
    flat_walk→first_wrong T (HasRule T) (rules_agree T unique) p g es,
    first_wrong→flat_walk T (HasRule T) (rules_agree T unique),
  )

  -- EXACTLY ONE OF THE TWO: the entries derive some list, or one is the first wrong,
  pub derives_or_wrong : ((k : List Goal) × Derives (HasRule T) g es k) ⊎ ((q : ℕ) × FirstWrong (HasRule T) p g es q)
  derives_or_wrong = go (flat_walk T p g es) refl
    where
      go : (r : Result (List Goal)) → flat_walk T p g es ≡ r → ((k : List Goal) × Derives (HasRule T) g es k) ⊎ ((q : ℕ) × FirstWrong (HasRule T) p g es q)
      go (gives k) e = inl (k, flat_walk→derives T (HasRule T) (rules_agree T unique) p g es e)
      go (refused c q) e = inr (q, flat_walk→first_wrong T (HasRule T) (rules_agree T unique) p g es e)

  -- and never both.
  pub derives_wrong : {k : List Goal} {q : ℕ} → Derives (HasRule T) g es k → FirstWrong (HasRule T) p g es q → ⊥
  derives_wrong d w =
      gives_refused (sym (derives→gives T (HasRule T) (rules_agree T unique) d p) ∙ first_wrong→flat_walk T (HasRule T) (rules_agree T unique) w)

-- Every refusal of the walk over entries has the one cause.
pub flat_walk_cause : (T : Table) (p : ℕ) (g : List Goal) (es : List Entry) {c : Cause} {q : ℕ} → flat_walk T p g es ≡ refused c q → c ≡ EntryWrong
flat_walk_cause T p g es e =
    let w = flat_walk→first_wrong T (Finds T) (finds_agrees T) p g es e in
    refused_cause (sym e ∙ first_wrong→flat_walk T (Finds T) (finds_agrees T) w)
