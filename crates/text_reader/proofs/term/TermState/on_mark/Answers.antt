-- `TermState::on_mark` meets its contract: one law for each kind of mark, known by its first byte.
-- Assumes nothing.
use mathlib.Core.Path.{◌≡◌, refl, sym}
use Prim.Native.Nat.{ℕ, zero, suc, ◌+◌, ◌*◌, ◌≤◌}
use native.Mathlib.Omega.{arith}
use Rattle.notation.specs.Passing.{mark_size}
use Rattle.notation.specs.Marks.{opening, closing, label_mark}
use Rattle.text_reader.proofs.OnMarkLaws.{frames_above, low_below, in_front, after, unstuck_as, room_as, leaf-done, had_label, had_sign, had_opening, waits_had, label_done, sign_done, opening_unstuck, opening_done, closing-done, is_closing, is_opening, is_label, is_plain, is_paired, is_valued}
use Rattle.text_reader.proofs.term.TermState.on_mark.Goals as goal

label_room : (a b n front : ℕ) → 3 * a + mark_size (label_mark n) ≤ front → a ≡ b → 3 * b + 5 ≤ front
unfolding mark_size
label_room a b n front h e = omega arith

-- the first byte of a bracket that does not close
opening_byte : (k : ℕ) → k ≤ 1 → (k ≡ 0 → ⊥) → k ≡ 1
opening_byte zero h n = absurd (n refl)
opening_byte (suc k) h n = omega (arith, h)

pub overflow_mul-place : goal.overflow_mul-place
overflow_mul-place c = let R = c.requires.1 in omega (arith, R.inside, R.few)

pub bounds-work-place : goal.bounds-work-place
bounds-work-place c = let R = c.requires.1 in omega (arith, R.inside, R.few, R.space)

pub on_closing-requires : goal.on_closing-requires
on_closing-requires c = let R = c.requires.1 in (omega (arith, frames_above _ _ _ _ _ _ _ R), low_below _ _ _ _ _ _ _ R, R.space)

pub returns-then-kind-eq-CLOSING : goal.returns-then-kind-eq-CLOSING
returns-then-kind-eq-CLOSING c =
    let R₀ = c.requires.1 in
    let r = c.on_closing.ensures in record {
      shown = (λ ms R.
          let e = is_closing _ _ _ refl _ R.stands c.if-kind-eq-CLOSING.true in
          after _ _ _ _ _ _ _ R closing e _ _ _ _ _ (closing-done _ _ _ _ _ _ _ _ _ _ (unstuck_as _ _ _ _ _ _ _ R closing e) R.shown r.shown_due));
      same_below = (λ i h. r.low_value.1 i (omega (arith, r.low_value.0, frames_above _ _ _ _ _ _ _ R₀)));
    }

pub on_opening-requires : goal.on_opening-requires
on_opening-requires c =
    let R = c.requires.1 in
    let e = is_opening _ _ _ refl _ R.stands (opening_byte _ c.if-kind-le-OPENING.true c.if-kind-eq-CLOSING.false) in
    let u = unstuck_as _ _ _ _ _ _ _ R opening e in
    let x = had_opening _ _ _ _ _ _ u R.shown in
    (R.space, R.short, (x.term, x.frames, x.shown, omega (arith, room_as _ _ _ _ _ _ _ R opening e, waits_had _ _ _ _ _ _ x), opening_unstuck _ _ _ _ _ _ x u))

pub returns-then-kind-le-OPENING : goal.returns-then-kind-le-OPENING
returns-then-kind-le-OPENING c = record {
  shown = (λ ms R.
      let e = is_opening _ _ _ refl _ R.stands (opening_byte _ c.if-kind-le-OPENING.true c.if-kind-eq-CLOSING.false) in
      let u = unstuck_as _ _ _ _ _ _ _ R opening e in
      let x = had_opening _ _ _ _ _ _ u R.shown in
      after _ _ _ _ _ _ _ R opening e _ _ _ _ _ (opening_done _ _ _ _ _ _ x _ _ _ _ (c.on_opening.ensures x.term x.frames x.shown (omega (arith, room_as _ _ _ _ _ _ _ R opening e, waits_had _ _ _ _ _ _ x)) (opening_unstuck _ _ _ _ _ _ x u))));
  same_below = (λ i h. refl);
}

pub put_plain-requires : goal.put_plain-requires
put_plain-requires c =
    let R = c.requires.1 in
    let p = is_plain _ _ _ refl _ R.stands c.in-17.is in
    (omega (arith, room_as _ _ _ _ _ _ _ R _ p.is, p.size_is), in_front _ _ _ _ _ _ _ R)

pub returns-in-17 : goal.returns-in-17
returns-in-17 c = record {
  shown = (λ ms R.
      let p = is_plain _ _ _ refl _ R.stands c.in-17.is in
      let q = c.put_plain.ensures in
      after _ _ _ _ _ _ _ R _ p.is _ _ _ _ _ (leaf-done p.one _ _ _ _ _ _ _ _ _ _ _ (unstuck_as _ _ _ _ _ _ _ R _ p.is) R.shown (omega (arith, q.front_value.0)) c.put_plain.auto.out p.bytes q.out_after q.front_value.1 q.front_value.2));
  same_below = (λ i h. refl);
}

pub on_sign-requires : goal.on_sign-requires
on_sign-requires c =
    let R = c.requires.1 in
    let p = is_paired _ _ _ refl _ R.stands (sym c.if-is_pair.ensures) in
    let x = had_sign p.one _ _ _ _ _ _ (unstuck_as _ _ _ _ _ _ _ R _ p.is) R.shown in
    (omega (arith, frames_above _ _ _ _ _ _ _ R), R.space, R.short, (x.term, x.frames, x.shown, omega (arith, room_as _ _ _ _ _ _ _ R _ p.is, waits_had _ _ _ _ _ _ x)))

pub on_label-requires : goal.on_label-requires
on_label-requires c =
    let R = c.requires.1 in
    let e = is_label _ _ _ refl _ _ R.stands c.in-18.is c.load16.ensures in
    let x = had_label _ _ _ _ _ _ _ (unstuck_as _ _ _ _ _ _ _ R _ e) R.shown in
    (R.space, R.short, (x.term, x.frames, x.shown, label_room _ _ _ _ (room_as _ _ _ _ _ _ _ R _ e) (waits_had _ _ _ _ _ _ x)))

pub returns-in-18 : goal.returns-in-18
returns-in-18 c = record {
  shown = (λ ms R.
      let e = is_label _ _ _ refl _ _ R.stands c.in-18.is c.load16.ensures in
      let x = had_label _ _ _ _ _ _ _ (unstuck_as _ _ _ _ _ _ _ R _ e) R.shown in
      after _ _ _ _ _ _ _ R _ e _ _ _ _ _ (label_done _ _ _ _ _ _ x _ _ _ _ _ _ refl (c.on_label.ensures x.term x.frames x.shown (label_room _ _ _ _ (room_as _ _ _ _ _ _ _ R _ e) (waits_had _ _ _ _ _ _ x)))));
  same_below = (λ i h. refl);
}

pub put_valued-requires : goal.put_valued-requires
put_valued-requires c =
    let R = c.requires.1 in
    let p = is_valued _ _ _ refl _ _ R.stands (λ z. omega (arith, z)) (λ z. omega (arith, z)) (λ z. grind (arith, z)) (λ z. grind (arith, z)) (sym c.if-is_pair.ensures) (λ z. omega (arith, z)) c.load16-in_default-2.ensures in
    (omega (arith, room_as _ _ _ _ _ _ _ R _ p.is, p.size_is), in_front _ _ _ _ _ _ _ R)

pub returns-in_default : goal.returns-in_default
returns-in_default c =
    let R₀ = c.requires.1 in
    let r = c.on_sign.ensures in record {
      shown = (λ ms R.
          let p = is_paired _ _ _ refl _ R.stands (sym c.if-is_pair.ensures) in
          let x = had_sign p.one _ _ _ _ _ _ (unstuck_as _ _ _ _ _ _ _ R _ p.is) R.shown in
          after _ _ _ _ _ _ _ R _ p.is _ _ _ _ _ (sign_done _ _ _ _ _ _ x p.one _ _ _ _ _ (r.shown_due p.one x.term x.frames p.tag x.shown (omega (arith, room_as _ _ _ _ _ _ _ R _ p.is, waits_had _ _ _ _ _ _ x)))));
      same_below = (λ i h. r.low_bound.1 i (omega (arith, r.low_bound.0, frames_above _ _ _ _ _ _ _ R₀)));
    }

pub returns-in_default-2 : goal.returns-in_default-2
returns-in_default-2 c = record {
  shown = (λ ms R.
      let p = is_valued _ _ _ refl _ _ R.stands (λ z. omega (arith, z)) (λ z. omega (arith, z)) (λ z. grind (arith, z)) (λ z. grind (arith, z)) (sym c.if-is_pair.ensures) (λ z. omega (arith, z)) c.load16-in_default-2.ensures in
      let q = c.put_valued.ensures in
      after _ _ _ _ _ _ _ R _ p.is _ _ _ _ _ (leaf-done p.one _ _ _ _ _ _ _ _ _ _ _ (unstuck_as _ _ _ _ _ _ _ R _ p.is) R.shown (omega (arith, q.front_value.0)) c.put_valued.auto.out p.bytes q.out_after q.front_value.1 q.front_value.2));
  same_below = (λ i h. refl);
}
