-- The cases of a turn, as the laws of each kind of file take them: a field outside terms, or within a term a turn that goes on, stops or ends the term.
-- Assumes nothing.
use mathlib.Core.Path.{◌≡◌, refl, sym, ◌∙◌}
use mathlib.Core.Bool.{true, false}
use mathlib.Core.List.{List}
use Prim.Native.Nat.{ℕ, ◌≤◌}
use native.Mathlib.Omega.{arith}
use lib.ListN.{length}
use Rattle.format.specs.TermRead.{Refused, Read}
use Rattle.parts.specs.declared.state.Mode.{Mode}
use Rattle.parts.specs.declared.state.Mode.TheVariants as M
use Rattle.parts.specs.declared.state.State.{State}
use Rattle.parts.specs.States.{cause_of, by_mode, is_term, high_of, taken, behind_term}
use Rattle.reading.specs.Waiting.{told, outcome, Held, Turned}
use Rattle.reading.specs.Reading.{header_of, settled, Turns, field, term, Step}
use Rattle.reading.proofs.TurnLaws.{inside}

-- what a turn within a term leaves: the rest of the term, a refusal, or what follows the term
pub data TermStep (s w : List ℕ) (base : ℕ) (x : State) (w' : List ℕ) (r : State) : Type 0 where
  goes : r.mode ≡ M.Reads → Held x r → outcome s w' (high_of x.part) base r ≡ outcome s w (high_of x.part) base x → TermStep s w base x w' r
  stops : r.mode ≡ M.Refused → Held x r → outcome s w (high_of x.part) base x ≡ Refused (cause_of r.why) r.place → TermStep s w base x w' r
  ends : (y : State) → y.mode ≡ M.Gave → Held x y → outcome s w (high_of x.part) base x ≡ Read y.at y.fields → y.at ≤ length s → r ≡ behind_term s y → TermStep s w base x w' r

module _ (s w : List ℕ) (base : ℕ) (x : State) (w' : List ℕ) (r : State) where
  pub field_step : Step s w base x w' r → is_term x.part ≡ false → (w' ≡ w) × (r ≡ taken s x (header_of s x))
  field_step step l = go step.turns
    where
      go : Turns s w base x w' r → (w' ≡ w) × (r ≡ taken s x (header_of s x))
      go (field o v e) = (v, e)
      go (term o y t e) = cc

module _ (s w : List ℕ) (base : ℕ) (x : State) (w' : List ℕ) (y : State) (t : Turned s w (high_of x.part) base x w' y) where
  was_read : y.mode ≡ M.Gave → outcome s w (high_of x.part) base x ≡ Read y.at y.fields
  unfolding told
  was_read e = sym t.moved.same ∙ t.over (λ z. cc) ∙ rw e

  was_refused : y.mode ≡ M.Refused → outcome s w (high_of x.part) base x ≡ Refused (cause_of y.why) y.place
  unfolding told
  was_refused e = sym t.moved.same ∙ t.over (λ z. cc) ∙ rw e

  by_the_mode : (m : Mode) → y.mode ≡ m → TermStep s w base x w' (by_mode m y y (behind_term s y))
  by_the_mode M.Refused e = stops e t.moved.held (was_refused e)
  by_the_mode M.Reads e = goes e t.moved.held t.moved.same
  by_the_mode M.Gave e = ends y e t.moved.held (was_read e) (omega (arith, inside s w' base y t.moved.going)) refl

  pub settled-step : TermStep s w base x w' (settled s y)
  unfolding settled
  settled-step = by_the_mode y.mode refl

module _ (s w : List ℕ) (base : ℕ) (x : State) (w' : List ℕ) (r : State) where
  pub term_step : Step s w base x w' r → is_term x.part ≡ true → TermStep s w base x w' r
  term_step step l = go step.turns
    where
      go : Turns s w base x w' r → TermStep s w base x w' r
      go (field o v e) = cc
      go (term o y t e) = rw e (settled-step s w base x w' y t)
