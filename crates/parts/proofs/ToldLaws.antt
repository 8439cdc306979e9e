-- What is found in a state, as a function of it: where what is kept is one.
-- Assumes nothing.
use mathlib.Core.Path.{◌≡◌, refl}
use Rattle.std.specs.Prelude.{Ok, Err}
use Rattle.std.specs.Prelude as std
use Rattle.format.specs.declared.refusals.Refusal.{Refusal}
use Rattle.parts.specs.declared.state.Mode.{Mode}
use Rattle.parts.specs.declared.state.Mode.TheVariants.{Refused, Reads, Gave}
use Rattle.parts.specs.declared.state.State.{State}
use Rattle.parts.specs.States.{by_mode, refusal_of, told_state, Told}

pub told_is : {P : Type 0} (kept : State → P) (x : State) (r : std.Result P Refusal) → Told (λ y p. p ≡ kept y) x r → r ≡ told_state kept x
told_is kept x (Err r) t = rw (t.0, t.1)
told_is {P} kept x (Ok p) t = rw t.1 (go x.mode t.0)
  where
    go : (m : Mode) → (m ≡ Refused → ⊥) → Ok (kept x) ≡ by_mode {A = std.Result P Refusal} m (Err (refusal_of x)) (Ok (kept x)) (Ok (kept x))
    go Refused n = absurd (n refl)
    go Reads n = refl
    go Gave n = refl
