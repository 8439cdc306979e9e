-- The turns of a loop over headers one behind the other, each compared with those before it: for 6 and 8 by the index, for 7 and 9 by the table of what was seen.
-- Assumes nothing.
use Rattle.std.specs.Prelude.{Some, None}
use mathlib.Core.Path.{◌≡◌, refl, sym, subst, ap, ◌∙◌}
use mathlib.Core.Bool.{true, false}
use mathlib.Core.List.Memᴰ
use mathlib.Core.List.{List, [], ◌∷◌, ◌++◌, append-nil, append_assoc, Memᴰ}
use Prim.Native.Nat.{ℕ, ◌+◌, ◌≤◌, ◌<◌}
use native.Mathlib.Omega.{arith}
use lib.ListN.{length, length-append}
use Rattle.tables.specs.declared.repeats.Repeat.{Repeat}
use Rattle.tables.specs.Repeats.{clashes_any, first_clash}
use Rattle.tables.specs.Standing.{InRow}
use Rattle.tables.specs.Within.{Every}
use Rattle.tables.specs.Search.{step_at, Room, clash_at, Headers, places, clash_told}
use Rattle.tables.proofs.SearchLaws.{step_positive, header-here, no_more, stops}
use Rattle.tables.proofs.RowLaws as row

module _ (kind : Repeat) (s : List ℕ) where
  -- the headers one behind the other from a place to another are these alone
  pub headers_one : (ps qs : List ℕ) (from to : ℕ) → Headers kind s from ps to → Headers kind s from qs to → ps ≡ qs
  unfolding InRow
  headers_one [] [] from to h k = refl
  headers_one [] (q ∷ qs) from to h k = absurd (omega (arith, step_positive kind s q, row.row_le (λ at p. (p ≡ at) × Room s at) (step_at kind s) qs _ to k.1))
  headers_one (p ∷ ps) [] from to h k = absurd (omega (arith, step_positive kind s p, row.row_le (λ at p. (p ≡ at) × Room s at) (step_at kind s) ps _ to h.1))
  headers_one (p ∷ ps) (q ∷ qs) from to h k =
      let e = h.0.0 ∙ sym k.0.0 in
      let same = headers_one ps qs (from + step_at kind s p) to h.1 (subst (λ (x : ℕ). Headers kind s (from + step_at kind s x) qs to) (sym e) k.1) in
      ap {B = List ℕ} (λ x. x ∷ ps) e ∙ ap {B = List ℕ} (λ l. q ∷ l) same

-- a search over headers of each of which a fact holds
module _ (kind : Repeat) (s : List ℕ) (Each : ℕ → Type 0) (to : ℕ) (ps : List ℕ) where
  -- at a header: what there is of those seen, and the first clash of all is the first from here on
  pub record Turn (Has : List ℕ → Type 0) (at : ℕ) : Type 0 where
    pub seen : List ℕ
    pub left : List ℕ
    pub whole : seen ++ left ≡ ps
    pub ahead : Headers kind s at left to
    pub every : Every Each left
    pub told : first_clash (clash_at kind s) [] (places ps) ≡ first_clash (clash_at kind s) seen (places left)
    pub has : Has seen

  pub turn_first : (Has : List ℕ → Type 0) (from : ℕ) → Headers kind s from ps to → Every Each ps → Has [] → Turn Has from
  turn_first Has from h e x = record { seen = []; left = ps; whole = refl; ahead = h; every = e; told = refl; has = x }

  -- the header at this place, and those behind it
  record Next (at : ℕ) (seen left : List ℕ) : Type 0 where
    rest : List ℕ
    is : left ≡ at ∷ rest
    behind : Headers kind s (at + step_at kind s at) rest to
    own : Each at
    more : Every Each rest
    goes_on : clashes_any (clash_at kind s) at seen ≡ false → first_clash (clash_at kind s) seen (places left) ≡ first_clash (clash_at kind s) (seen ++ (at ∷ [])) (places rest)

  next : (at : ℕ) (seen left : List ℕ) → Headers kind s at left to → Every Each left → at < to → Next at seen left
  unfolding InRow Every first_clash places
  next at seen [] h m l = absurd (omega arith)
  next at seen (p ∷ rest) h m l =
      let e = h.0.0 in
      record {
        rest = rest;
        is = ap {B = List ℕ} (λ x. x ∷ rest) e;
        behind = subst (λ (k : ℕ). Headers kind s (at + step_at kind s k) rest to) e h.1;
        own = subst Each e m.0;
        more = m.1;
        goes_on = λ c. rw (e, c);
      }

  pub nothing_left : (at : ℕ) (left : List ℕ) → Headers kind s at left to → to ≤ at → left ≡ []
  unfolding InRow
  nothing_left at [] a h = refl
  nothing_left at (p ∷ left) a h = absurd (omega (arith, step_positive kind s p, row.row_le (λ at p. (p ≡ at) × Room s at) (step_at kind s) left _ to a.1))

  module _ (Has : List ℕ → Type 0) (at : ℕ) (t : Turn Has at) where
    module _ (l : at < to) where
      abbrev here : Next at t.seen t.left
      here = next at t.seen t.left t.ahead t.every l

      pub header : Room s at × (at + step_at kind s at ≤ to)
      header = header-here kind s t.left at to t.ahead l

      pub own : Each at
      own = here.own

      pub member : Memᴰ at ps
      member = subst (Memᴰ at) t.whole (Memᴰ.append_right t.seen (subst (Memᴰ at) (sym here.is) (Memᴰ.head refl)))

      pub room_left : length t.seen < length ps
      room_left = omega (arith, length-append t.seen t.left, ap length t.whole, ap length here.is)

      pub turn_clash : clashes_any (clash_at kind s) at t.seen ≡ true → first_clash (clash_at kind s) [] (places ps) ≡ clash_told (Some at)
      unfolding clash_told
      turn_clash e = t.told ∙ stops kind s at t.seen t.left to t.ahead l e

      pub turn_next : (Has' : List ℕ → Type 0) → clashes_any (clash_at kind s) at t.seen ≡ false → Has' (t.seen ++ (at ∷ [])) → Turn Has' (at + step_at kind s at)
      turn_next Has' e x = record {
        seen = t.seen ++ (at ∷ []);
        left = here.rest;
        whole = append_assoc t.seen (at ∷ []) here.rest ∙ ap (λ (z : List ℕ). t.seen ++ z) (sym here.is) ∙ t.whole;
        ahead = here.behind;
        every = here.more;
        told = t.told ∙ here.goes_on e;
        has = x;
      }

    pub turn_last : to ≤ at → (first_clash (clash_at kind s) [] (places ps) ≡ clash_told None) × Has ps
    unfolding clash_told
    turn_last h = (
      t.told ∙ no_more kind s at t.seen t.left to t.ahead h,
      subst Has (sym (append-nil t.seen) ∙ ap (λ (z : List ℕ). t.seen ++ z) (sym (nothing_left at t.left t.ahead h)) ∙ t.whole) t.has,
    )
