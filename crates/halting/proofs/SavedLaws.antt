-- Saving a state: whether anything is saved; the work space keeps its length and what a run uses of it, and the contents of the state stand behind that.
-- Assumes nothing.
use Prim.Native.Nat.{ℕ, ◌-◌, ◌≤◌}
use mathlib.Core.Path.{◌≡◌, refl, ap, subst}
use mathlib.Core.List.{List}
use native.Mathlib.Omega.{arith}
use lib.ListN.{length, take, drop, length-drop}
use lib.Seq.{length-take-le}
use Rattle.std.specs.Prelude as std
use Rattle.std.specs.Prelude.{None, Some}
use Rattle.entries.specs.SavedState.{saved_size, saved_contents, zeros_to}
use Rattle.entries.specs.Halting.{halting_work}
use Rattle.entries.proofs.SavedStateLaws.{zeros_length}
use Rattle.arities.specs.Layout.{space_end}
use Rattle.tactics.specs.Memory.{Same}
use Rattle.machine.specs.declared.state.Mode.{Mode}
use Rattle.machine.specs.declared.state.Mode.TheVariants as is
use Rattle.machine.specs.declared.state.State.{State}
use Rattle.saver.specs.Save.{Halts, SavesUpTo, Saves}
use Rattle.saver.proofs.PutLaws.{same_below}
use Rattle.saver.proofs.SaveLaws.{saved_within, saved_length, saved_front, saved_block}
use Rattle.halting.specs.SavedBytes.{EndsAt, saved_bytes}

-- by whether a term is to begin
pub either : (s : State) (P : Type 0) → ((s.mode ≡ is.Running → ⊥) → P) → (s.mode ≡ is.Running → P) → P
either s P f g = go s.mode refl
  where
    go : (m : Mode) → s.mode ≡ m → P
    go is.Running e = g e
    go is.Proved e = f (λ z. cc)
    go is.Failed e = f (λ z. cc)
    go is.Overflowed e = f (λ z. cc)
    go is.Exceeded e = f (λ z. cc)
    go (is.Other n) e = f (λ z. cc)

-- what the result of saving says
module _ (w : List ℕ) (s : State) (r : std.Option ℕ) (v : List ℕ) (b : Saves w s r v) where
  pub saved_none : r ≡ None → (s.mode ≡ is.Running → ⊥) × (v ≡ w)
  saved_none e = either s _ (λ n. (n, (b.ended n).1)) (λ m. let k = (b.halted m).1 in cc)

  pub saved_some : (end : ℕ) → r ≡ Some end → (s.mode ≡ is.Running) × SavesUpTo w s end v
  saved_some end e =
      either s _ (λ n. let k = (b.ended n).0 in cc)
      (λ m. let k = b.halted m in let i : k.0 ≡ end = let j = k.1 in cc in (m, subst (λ (x : ℕ). SavesUpTo w s x v) i k.2))

-- a state that was saved
module _ (w : List ℕ) (s : State) (end : ℕ) (v : List ℕ) (space : halting_work ≤ length w) (b : SavesUpTo w s end v) (h : Halts w s) where
  pub same_size : length v ≡ length w
  same_size = saved_length w s end v b h.table h.job h.place h.term h.goals h.frames h.runs space h.fits

  pub same_front : Same 0 space_end w v
  same_front i l r = same_below w v space_end (saved_front w s end v b h.table h.job h.place h.term h.goals h.frames h.runs space h.fits) i r

  pub stands_saved : saved_bytes v end ≡ zeros_to saved_size (saved_contents s.steps h.place h.goals h.frames)
  stands_saved = ap (zeros_to saved_size) (saved_block w s end v b h.table h.job h.place h.term h.goals h.frames h.runs space h.fits)

  pub ends_within : EndsAt end
  ends_within = let z = saved_within w s end v b h.table h.job h.place h.term h.goals h.frames h.runs space h.fits in record { above = z.0; within = z.1 }

-- every saved state has one size
pub bytes_size : (w : List ℕ) (end : ℕ) → EndsAt end → halting_work ≤ length w → length (saved_bytes w end) ≡ saved_size
bytes_size w end e h =
    let l : length (take (end - space_end) (drop space_end w)) ≡ end - space_end = length-take-le (end - space_end) (drop space_end w) (simp length-drop (omega (arith, e.within))) in
    zeros_length saved_size (take (end - space_end) (drop space_end w)) (omega (arith, l, e.within))
