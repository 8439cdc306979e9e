-- The comparison of a run's own saved bytes with others: it says whether these are what is to be saved of its state.
-- Assumes nothing.
use Prim.Native.Nat.{ℕ, ◌≤◌}
use mathlib.Core.Path.{◌≡◌, sym, ap, ◌∙◌}
use mathlib.Core.Bool.{Bool, false}
use mathlib.Core.List.{List}
use mathlib.Core.Option.{Option}
use native.Mathlib.Omega.{arith}
use lib.ListN.{length, get_or}
use Rattle.std.specs.Prelude as std
use Rattle.std.specs.Prelude.{None, Some}
use Rattle.lent_frames.specs.declared.LentFrame.{LentFrame}
use Rattle.entries.specs.Halting.{same_bytes, is_saved}
use Rattle.arities.specs.Layout.{space_end}
use Rattle.tactics.specs.Memory.{Same}
use Rattle.machine.specs.declared.state.Mode.TheVariants as is
use Rattle.machine.specs.declared.state.State.{State}
use Rattle.saver.specs.Save.{SaveGiven, SavesUpTo, Saves}
use Rattle.halting.specs.Halted.{Keeps}
use Rattle.halting.specs.SavedBytes.{EndsAt, saved_bytes}
use Rattle.halting.proofs.SavedLaws.{saved_none, saved_some, same_size, same_front, stands_saved, ends_within}

module _ (w : List ℕ) (fs : List LentFrame) (s : State) (saved : List ℕ) (q : SaveGiven w fs s) (r : std.Option ℕ) (v : List ℕ) (b : Saves w s r v) where
  -- a run that has ended has no saved state
  pub none_end : r ≡ None → (o : Option (List ℕ)) → Keeps w s o → false ≡ is_saved o saved
  unfolding is_saved
  none_end e o k = sym (ap (λ (x : Option (List ℕ)). is_saved x saved) (k.ended (saved_none w s r v b e).0))

  pub none_kept : r ≡ None → Same 0 space_end w v
  none_kept e i l h = ap (λ (x : List ℕ). get_or x i 0) (saved_none w s r v b e).1

  module _ (end : ℕ) (e : r ≡ Some end) where
    u : (s.mode ≡ is.Running) × SavesUpTo w s end v
    u = saved_some w s r v b end e

    pub compare_given : EndsAt end × (end ≤ length v)
    compare_given =
        let h = q.halts u.0 in
        let a = ends_within w s end v q.space u.1 h in
        (a, omega (arith, a.within, q.space, same_size w s end v q.space u.1 h))

    pub some_end : (x : Bool) → x ≡ same_bytes (saved_bytes v end) saved → (o : Option (List ℕ)) → Keeps w s o → x ≡ is_saved o saved
    unfolding is_saved
    some_end x c o k =
        let h = k.halted u.0 in
        c ∙ ap (λ (y : List ℕ). same_bytes y saved) (stands_saved w s end v q.space u.1 h.halts) ∙ sym (ap (λ (y : Option (List ℕ)). is_saved y saved) h.saved_is)

    pub some_kept : Same 0 space_end w v
    some_kept = same_front w s end v q.space u.1 (q.halts u.0)
