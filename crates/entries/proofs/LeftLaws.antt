-- What the definition of a call that writes comes to, by cases: 29, 26, or the result.
-- Assumes nothing.
use Prim.Native.Nat.{ℕ, ◌≤◌, ◌<◌}
use mathlib.Core.Path.{◌≡◌, refl, sym, ap, ◌∙◌}
use mathlib.Core.Bool.{Bool, true, false, cond}
use mathlib.Core.List.{List, [], ◌++◌}
use lib.Dec.{ltb}
use lib.ListN.{length, drop}
use borrow.Author.Tests.{lt-ltb, le-ltb}
use Rattle.format.specs.declared.refusals.Cause.{Cause}
use Rattle.format.specs.Refusals.{number}
use Rattle.answers.specs.declared.Answer.{Answer}
use Rattle.answers.specs.Answers.{refusal, wrote}
use Rattle.entries.specs.Outcomes as outcomes
use Rattle.entries.specs.Outcomes.{Outcome, success, no_file}
use Rattle.entries.specs.LentSpace.{Written, write_out, write_in, cleared}
use Rattle.entries.specs.Left.{kept, left_in}

-- a refusal, by its number
pub refuses : (c : Cause) (k file place n : ℕ) (r : Answer) (out : List ℕ) → number c ≡ k → r ≡ refusal k file place n → kept r out ≡ left_in out (outcomes.refusal c file place n)
unfolding write_out
refuses c k file place n r out e q = ap (λ (x : Answer). kept x out) (q ∙ ap (λ (x : ℕ). refusal x file place n) (sym e))

-- 26, and else the result
pub no_room : (p : List ℕ) (n : ℕ) (out : List ℕ) → length out < length p → kept (refusal 26 no_file 0 n) out ≡ left_in out (success p n)
unfolding write_out number
no_room p n out h = rw (lt-ltb (length out) (length p) h)

pub enough_room : (p : List ℕ) (n : ℕ) (out : List ℕ) → length p ≤ length out → kept (wrote (length p) n) (p ++ drop (length p) out) ≡ left_in out (success p n)
unfolding write_out
enough_room p n out h = rw (le-ltb (length out) (length p) h)

either_way : (b : Bool) (a a' : Answer) (o o' w : List ℕ) → ◌≡◌ {A = Written} (cond b (record { answer = a; work = w; out = o }) (record { answer = a'; work = w; out = o' })) (record { answer = (cond b (kept a o) (kept a' o')).answer; work = w; out = (cond b (kept a o) (kept a' o')).out })
either_way true a a' o o' w = refl
either_way false a a' o o' w = refl

pub any_work : (work out : List ℕ) (o : Outcome (List ℕ)) → write_out work out o ≡ record { answer = (left_in out o).answer; work = cleared work; out = (left_in out o).out }
unfolding write_out
any_work work out (outcomes.refusal c f p k) = refl
any_work work out (success bytes k) = either_way (ltb (length out) (length bytes)) _ _ out _ (cleared work)

-- of an entry with a work space of that size: 29, and else what the call leaves with the work space cleared
pub too_short : (size : ℕ) (work out : List ℕ) (o : Outcome (List ℕ)) → length work < size → write_in size work out o ≡ record { answer = refusal 29 no_file 0 0; work = work; out = out }
unfolding write_in number
too_short size work out o l = rw (lt-ltb (length work) size l)

pub long_enough : (size : ℕ) (work out : List ℕ) (o : Outcome (List ℕ)) → size ≤ length work → write_in size work out o ≡ record { answer = (left_in out o).answer; work = cleared work; out = (left_in out o).out }
unfolding write_in
long_enough size work out o l = rw (le-ltb (length work) size l) (any_work work out o)

-- what the code of such an entry leaves is what the entry is defined to leave
module _ (size : ℕ) (work out : List ℕ) (o : Outcome (List ℕ)) where
  abbrev Ends : Answer → (work out : List ℕ) → Type 0
  Ends r w v = (r ≡ (write_in size work out o).answer) × ((w ≡ (write_in size work out o).work) × (v ≡ (write_in size work out o).out))

  pub unbegun_end : (r : Answer) → length work < size → r ≡ refusal 29 no_file 0 0 → Ends r work out
  unbegun_end r l q =
      let e = sym (too_short size work out o l) in
      (q ∙ ap (λ (x : Written). x.answer) e, (ap (λ (x : Written). x.work) e, ap (λ (x : Written). x.out) e))

  pub begun_end : (r : Answer) (w v : List ℕ) → size ≤ length work → r ≡ (left_in out o).answer → w ≡ cleared work → v ≡ (left_in out o).out → Ends r w v
  begun_end r w v l a b c =
      let e = sym (long_enough size work out o l) in
      (a ∙ ap (λ (x : Written). x.answer) e, (b ∙ ap (λ (x : Written). x.work) e, c ∙ ap (λ (x : Written). x.out) e))
