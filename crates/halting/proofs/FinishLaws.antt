-- The second space after a call: at a halt the copy of the contents of the saved state and zeros, else as it was.
-- Assumes nothing.
use Prim.Native.Nat.{ℕ, ◌+◌, ◌-◌, ◌≤◌}
use mathlib.Core.Path.{◌≡◌, sym, ap, ap₂, subst, ◌∙◌}
use mathlib.Core.List.{List, ◌++◌, append_assoc}
use mathlib.Core.Option.{Option, none, some}
use native.Mathlib.Nat.{zero-add}
use native.Mathlib.Omega.{arith}
use lib.ListN.{length, take, drop, replicate, length-drop, length-append}
use lib.Seq.{paste, length-take-le, drop-drop, take_at, drop_at}
use borrow.Rule.Slice.PartMut.{mid_of, put_mid}
use Rattle.std.specs.Prelude as std
use Rattle.std.specs.Prelude.{None, Some}
use Rattle.lent_frames.specs.declared.LentFrame.{LentFrame}
use Rattle.entries.specs.SavedState.{saved_size}
use Rattle.entries.specs.Halting.{halting_work, save_in}
use Rattle.arities.specs.Layout.{space_end}
use Rattle.machine.specs.declared.state.Mode.TheVariants as is
use Rattle.machine.specs.declared.state.State.{State}
use Rattle.saver.specs.Save.{SaveGiven, SavesUpTo, Saves}
use Rattle.halting.specs.Halted.{Keeps, KeepsLast}
use Rattle.halting.specs.SavedBytes.{EndsAt, saved_bytes}
use Rattle.halting.specs.Finish.{HandGiven}
use Rattle.halting.proofs.SavedLaws.{saved_none, saved_some, same_size, stands_saved, ends_within, bytes_size}

copied : (d s : List ℕ) (n : ℕ) → paste d 0 s n ≡ take n s ++ drop n d
copied d s n = ap (λ (i : ℕ). take n s ++ drop i d) (zero-add n)

-- zeros put between a front and the rest of a list
zeros_put : (a rest : List ℕ) (n size : ℕ) → length a ≡ n → n ≤ size → size ≤ n + length rest → (ys : List ℕ) → ys ≡ replicate (length (mid_of n (size - n) (a ++ rest))) 0
    → put_mid n (size - n) (a ++ rest) ys ≡ a ++ replicate (size - length a) 0 ++ drop (size - n) rest
zeros_put a rest n size e l k ys q =
    let d : drop n (a ++ rest) ≡ rest = drop_at a rest n e in
    let m : length (mid_of n (size - n) (a ++ rest)) ≡ size - length a = length-take-le (size - n) (drop n (a ++ rest)) (omega (arith, ap length d)) ∙ ap (λ (j : ℕ). size - j) (sym e) in
    ap₂ (λ (x y : List ℕ). x ++ (ys ++ drop (size - n) y)) (take_at a rest n e) d
    ∙ ap (λ (x : List ℕ). a ++ (x ++ drop (size - n) rest)) (q ∙ ap (λ (j : ℕ). replicate j 0) m)
    ∙ sym (append_assoc a (replicate (size - length a) 0) (drop (size - n) rest))

module _ (end : ℕ) (work state : List ℕ) (ends : EndsAt end) (space : halting_work ≤ length work) (roomy : saved_size ≤ length state) where
  abbrev n : ℕ
  n = end - space_end

  -- the contents fit into the work space and into the second space
  pub contents_fit : (space_end ≤ end) × (space_end + n ≤ length work) × (n ≤ saved_size) × (n ≤ length state)
  contents_fit = (ends.above, omega (arith, ends.above, ends.within, space), omega (arith, ends.within), omega (arith, ends.within, roomy))

  pub size-kept : length (paste state 0 (drop space_end work) n) ≡ length state
  size-kept =
      let l : length (take n (drop space_end work)) ≡ n = length-take-le n (drop space_end work) (omega (arith, length-drop space_end work, contents_fit.1)) in
      ap length (copied state (drop space_end work) n) ∙ omega (arith, l, length-append (take n (drop space_end work)) (drop n state), length-drop n state, contents_fit.3)

  handed : (v ys : List ℕ) → v ≡ paste state 0 (drop space_end work) n → ys ≡ replicate (length (mid_of n (saved_size - n) v)) 0 → put_mid n (saved_size - n) v ys ≡ saved_bytes work end ++ drop saved_size state
  handed v ys e q =
      let c = take n (drop space_end work) in
      let l : length c ≡ n = length-take-le n (drop space_end work) (omega (arith, length-drop space_end work, contents_fit.1)) in
      let f : v ≡ c ++ drop n state = e ∙ copied state (drop space_end work) n in
      ap (λ (x : List ℕ). put_mid n (saved_size - n) x ys) f
      ∙ zeros_put c (drop n state) n saved_size l contents_fit.2 (omega (arith, length-drop n state, contents_fit.2, roomy)) ys (q ∙ ap (λ (x : List ℕ). replicate (length (mid_of n (saved_size - n) x)) 0) f)
      ∙ ap (λ (x : List ℕ). c ++ replicate (saved_size - length c) 0 ++ x) (drop-drop (saved_size - n) n state ∙ ap (λ (j : ℕ). drop j state) (rest contents_fit.2))
    where
      rest : {k : ℕ} → n ≤ k → n + (k - n) ≡ k
      rest h = omega arith

  -- what was handed over is what is to be saved
  pub saved_end : (v ys : List ℕ) → v ≡ paste state 0 (drop space_end work) n → ys ≡ replicate (length (mid_of n (saved_size - n) v)) 0 → (b : Option (List ℕ)) → b ≡ some (saved_bytes work end)
      → put_mid n (saved_size - n) v ys ≡ save_in state b
  unfolding save_in
  saved_end v ys e q b f =
      handed v ys e q ∙ ap (λ (j : ℕ). saved_bytes work end ++ drop j state) (sym (bytes_size work end ends space)) ∙ sym (ap (save_in state) f)

-- no other answer touches the second space
pub untouched : (w state : List ℕ) (last : std.Option State) → last ≡ None → (b : Option (List ℕ)) → KeepsLast w last b → state ≡ save_in state b
unfolding KeepsLast save_in
untouched w state last e b k = let z : b ≡ none = subst (λ (x : std.Option State). KeepsLast w x b) e k in sym (ap (save_in state) z)

-- what is known of a last state
pub kept_some : (w : List ℕ) (last : std.Option State) (s : State) → last ≡ Some s → (b : Option (List ℕ)) → KeepsLast w last b → Keeps w s b
unfolding KeepsLast
kept_some w last s e b k = subst (λ (x : std.Option State). KeepsLast w x b) e k

module _ (w : List ℕ) (fs : List LentFrame) (state : List ℕ) (last : std.Option State) (g : HandGiven last w fs state) (s : State) (is_last : last ≡ Some s) where
  pub save_given : SaveGiven w fs s
  save_given = record { space = g.space; lent = g.lent; halts = g.halts s is_last }

  module _ (r : std.Option ℕ) (v : List ℕ) (saves : Saves w s r v) where
    pub not_halted : r ≡ None → (b : Option (List ℕ)) → KeepsLast w last b → state ≡ save_in state b
    unfolding save_in
    not_halted e b k = sym (ap (save_in state) ((kept_some w last s is_last b k).ended (saved_none w s r v saves e).0))

    module _ (end : ℕ) (e : r ≡ Some end) where
      u : (s.mode ≡ is.Running) × SavesUpTo w s end v
      u = saved_some w s r v saves end e

      pub ends : EndsAt end
      ends = ends_within w s end v g.space u.1 (g.halts s is_last u.0)

      pub space_kept : halting_work ≤ length v
      space_kept = omega (arith, g.space, same_size w s end v g.space u.1 (g.halts s is_last u.0))

      pub saved_is : (b : Option (List ℕ)) → KeepsLast w last b → b ≡ some (saved_bytes v end)
      saved_is b k = let h = (kept_some w last s is_last b k).halted u.0 in h.saved_is ∙ ap some (sym (stands_saved w s end v g.space u.1 h.halts))
