-- Derivations one after another, side by side and in parts, and trees for goals. By induction over the derivation. Assumes nothing.
use Prim.Native.Nat.{suc}
use mathlib.Core.Path.{◌≡◌, refl, ap}
use mathlib.Core.List.{List, [], ◌∷◌, ◌++◌, map, append_assoc}
use lib.ListN.{length, drop}
use Rattle.format.specs.declared.values.RuleName.{RuleName}
use Rattle.format.specs.declared.values.Goal.{Goal}
use Rattle.files.specs.Derivations.{Entry, use_entry, open_entry}
use Rattle.hitac.specs.Validates.{System}
use Rattle.hitac.specs.Derives.{Derives, D-End, D-Open, D-Use}
use Rattle.hitac.specs.Forest.{Tree, entries, leaves, substitute, substitute_forest}
use Rattle.hitac.proofs.Substitution.{leaves-append}

-- What derives in a system derives in any that has its rules.
pub derives_map : {S R : System} → ((a : RuleName) (γ : Goal) (h : List Goal) → S a γ h → R a γ h)
    → {g k : List Goal} {es : List Entry} → Derives S g es k → Derives R g es k
derives_map f D-End = D-End
derives_map f (D-Open d) = D-Open (derives_map f d)
derives_map f (D-Use {a = a} {γ = γ} {h = h} e d) = D-Use (f a γ h e) (derives_map f d)

-- One after another; and with further goals pending.
pub derives_append : {S : System} {g h k : List Goal} {es fs : List Entry} → Derives S g es h → Derives S h fs k → Derives S g (es ++ fs) k
derives_append D-End m = m
derives_append (D-Open d) m = D-Open (derives_append d m)
derives_append (D-Use e d) m = D-Use e (derives_append d m)

pub derives_more : {S : System} {g k : List Goal} {es : List Entry} → Derives S g es k → (m : List Goal) → Derives S (g ++ m) es (k ++ m)
derives_more D-End m = D-End
derives_more (D-Open d) m = D-Open (derives_more d m)
derives_more (D-Use {g = g} {h = h} e d) m = D-Use e (rw (append_assoc h g m) at (derives_more d m))

-- A tree for each goal.
pub data Trees (S : System) : List Goal → List Tree → Type 0 where
  Trees-None : Trees S [] []
  Trees-More : {γ : Goal} {g : List Goal} {t : Tree} {f : List Tree} → Derives S (γ ∷ []) t [] → Trees S g f → Trees S (γ ∷ g) (t ∷ f)

pub trees_derive : {S : System} {g : List Goal} {f : List Tree} → Trees S g f → Derives S g (entries f) []
trees_derive Trees-None = D-End
trees_derive (Trees-More {g = g} d r) = derives_append (derives_more d g) (trees_derive r)

pub trees_append : {S : System} {g h : List Goal} {f k : List Tree} → Trees S g f → Trees S h k → Trees S (g ++ h) (f ++ k)
trees_append Trees-None r = r
trees_append (Trees-More d q) r = Trees-More d (trees_append q r)

pub trees_length : {S : System} {g : List Goal} {f : List Tree} → Trees S g f → length f ≡ length g
trees_length Trees-None = refl
trees_length (Trees-More d r) = ap suc (trees_length r)

trees_drop : {S : System} (g m : List Goal) {ts : List Tree} → Trees S (g ++ m) ts → Trees S m (drop (length g) ts)
trees_drop [] m r = r
trees_drop (γ ∷ g) m (Trees-More d r) = trees_drop g m r

-- Trees for the open leaves of a derivation, and of a forest
substitute_derives : {S : System} {g k : List Goal} {es : List Entry} → Derives S g es k → (m : List Goal) {ts : List Tree}
    → Trees S (leaves es ++ m) ts → Derives S g (substitute es ts) k
substitute_derives D-End m r = D-End
substitute_derives (D-Open {g = g} d) m (Trees-More t r) = derives_append (derives_more t g) (substitute_derives d m r)
substitute_derives (D-Use e d) m r = D-Use e (substitute_derives d m r)

pub substitute_trees : {S : System} {g : List Goal} {f : List Tree} → Trees S g f → {ts : List Tree} → Trees S (leaves (entries f)) ts
    → Trees S g (substitute_forest f ts)
substitute_trees Trees-None r = Trees-None
substitute_trees {S} (Trees-More {t = t} {f = f} d q) {ts} r =
    let r' : Trees S (leaves t ++ leaves (entries f)) ts = rw (leaves-append t (entries f)) at r in
    Trees-More (substitute_derives d (leaves (entries f)) r') (substitute_trees q (trees_drop (leaves t) (leaves (entries f)) r'))

-- The premises as open leaves
pub opens_derive : {S : System} (h : List Goal) → Derives S (h ++ []) (map open_entry h) []
opens_derive [] = D-End
opens_derive (γ ∷ h) = D-Open (opens_derive h)

-- A derivation from g ++ k begins with one from g, and the rest is one from k.
pub record Parted (S : System) (g k : List Goal) (es : List Entry) : Type 0 where
  pub front : List Entry
  pub back : List Entry
  pub whole : front ++ back ≡ es
  pub front_derives : Derives S g front []
  pub back_derives : Derives S k back []

pub parted : {S : System} (es : List Entry) (g k : List Goal) → Derives S (g ++ k) es [] → Parted S g k es
parted {S} [] [] k d = record { front = []; back = []; whole = refl; front_derives = D-End; back_derives = d }
parted {S = S} [] (γ' ∷ g) k d = elim d [ ]
parted {S} (open_entry γ ∷ es) [] k d = record { front = []; back = open_entry γ ∷ es; whole = refl; front_derives = D-End; back_derives = d }
parted {S} (use_entry a γ ∷ es) [] k d = record { front = []; back = use_entry a γ ∷ es; whole = refl; front_derives = D-End; back_derives = d }
parted {S} (open_entry γ ∷ es) (γ' ∷ g) k (D-Open d) =
    let r = parted es g k d in
    record {
      front = open_entry γ ∷ r.front;
      back = r.back;
      whole = ap {B = List Entry} (λ x. open_entry γ ∷ x) r.whole;
      front_derives = D-Open r.front_derives;
      back_derives = r.back_derives;
    }
parted {S} (use_entry a γ ∷ es) (γ' ∷ g) k (D-Use {h = h} e d) =
    let r = parted {S = S} es (h ++ g) k (rw (append_assoc h g k) d) in
    record {
      front = use_entry a γ ∷ r.front;
      back = r.back;
      whole = ap {B = List Entry} (λ x. use_entry a γ ∷ x) r.whole;
      front_derives = D-Use e r.front_derives;
      back_derives = r.back_derives;
    }
