-- `waiting::enter` meets its contract: the header says which step it is.
-- Assumes nothing.
use mathlib.Core.Path.{◌≡◌, refl, sym, ◌∙◌}
use mathlib.Core.List.{List}
use Prim.Native.Nat.{ℕ, ◌+◌, ◌-◌, ◌≤◌, ◌<◌}
use native.Mathlib.Omega.{arith}
use lib.Dec.{leb}
use lib.ListN.{length}
use borrow.Author.Tests.{leb-false}
use Rattle.std.specs.Prelude.{Ok}
use Rattle.std.specs.Prelude as std
use Rattle.format.specs.declared.headers.Header as read
use Rattle.format.specs.declared.refusals.Refusal.{Refusal}
use Rattle.format.specs.Limits.{most_term_fields}
use Rattle.format.specs.Results.{gives}
use Rattle.format.specs.Tags.{hiproof_kind, least_of}
use Rattle.format.specs.Headers.{header, header_at}
use Rattle.format.proofs.HeaderLaws.{IsField, is_field, told-field}
use Rattle.parts.specs.declared.state.State.{State}
use Rattle.reading.specs.Waiting.{Enters}
use Rattle.reading.proofs.TurnLaws.{gap_fits, enter_refused, enter-leaf, enter_inner}
use Rattle.reading.proofs.waiting.enter.Goals as goal

-- what is told of the field
header_is : (s w : List ℕ) (high base : ℕ) (x : State) (h : std.Result read.Header Refusal) (tag len : ℕ) → Enters s w high base x h → h ≡ Ok (record { tag = tag; len = len }) → header_at s x.at x.end hiproof_kind high (leb most_term_fields x.fields) ≡ gives (header tag len)
header_is s w high base x h tag len e is = told-field _ _ _ (sym e.header_is ∙ is)

-- the sums and places that the field needs
record Fits (w : List ℕ) (base : ℕ) (x : State) (tag len : ℕ) : Type 0 where
  close : x.at + 3 + len ≤ x.end
  fields : x.fields < 4096
  depth : x.depth ≤ x.fields
  room : base + 16384 ≤ length w
  gap : x.at - x.top ≤ 65535
  least : least_of tag ≤ len

fits : (s w : List ℕ) (high base : ℕ) (x : State) (h : std.Result read.Header Refusal) (tag len : ℕ) → Enters s w high base x h → h ≡ Ok (record { tag = tag; len = len }) → Fits w base x tag len
fits s w high base x h tag len e is =
    let f : IsField s x.at x.end hiproof_kind high (leb most_term_fields x.fields) tag len = is_field _ _ _ _ _ _ _ _ (header_is s w high base x h tag len e is) in
    record {
      close = f.contents;
      fields = leb-false _ _ f.room;
      depth = e.going.few;
      room = e.going.room;
      gap = gap_fits _ _ _ _ e.going e.reading f.header-fits;
      least = f.least;
    }

pub overflow_add-close : goal.overflow_add-close
overflow_add-close c = omega (arith, fits _ _ _ _ _ _ _ _ c.requires.2 c.in-Ok.is)

pub overflow_add-close-in-Ok : goal.overflow_add-close-in-Ok
overflow_add-close-in-Ok c = omega (arith, fits _ _ _ _ _ _ _ _ c.requires.2 c.in-Ok.is)

pub overflow_add-fields : goal.overflow_add-fields
overflow_add-fields c = omega (arith, fits _ _ _ _ _ _ _ _ c.requires.2 c.in-Ok.is)

pub overflow_mul-low : goal.overflow_mul-low
overflow_mul-low c = omega (arith, fits _ _ _ _ _ _ _ _ c.requires.2 c.in-Ok.is)

pub overflow_add-low : goal.overflow_add-low
overflow_add-low c = omega (arith, fits _ _ _ _ _ _ _ _ c.requires.2 c.in-Ok.is)

pub overflow_cast-at : goal.overflow_cast-at
overflow_cast-at c = omega (arith, fits _ _ _ _ _ _ _ _ c.requires.2 c.in-Ok.is)

pub push-requires : goal.push-requires
push-requires c = omega (arith, fits _ _ _ _ _ _ _ _ c.requires.2 c.in-Ok.is)

pub overflow_add-result : goal.overflow_add-result
overflow_add-result c = omega (arith, fits _ _ _ _ _ _ _ _ c.requires.2 c.in-Ok.is)

pub overflow_add-result-in-Ok : goal.overflow_add-result-in-Ok
overflow_add-result-in-Ok c = omega (arith, fits _ _ _ _ _ _ _ _ c.requires.2 c.in-Ok.is, c.row_of-row.ensures.least)

pub overflow_add-result-in-Ok-2 : goal.overflow_add-result-in-Ok-2
overflow_add-result-in-Ok-2 c = omega (arith, fits _ _ _ _ _ _ _ _ c.requires.2 c.in-Ok.is)

pub returns-in-Err : goal.returns-in-Err
returns-in-Err c = λ s high b. rw c.refused.ensures (enter_refused _ _ _ _ _ b.going b.reading _ _ (sym b.header_is ∙ c.in-Err.is))

pub returns-then-row-eq0 : goal.returns-then-row-eq0
returns-then-row-eq0 c = λ s high b. (enter-leaf _ _ _ _ _ b.going b.reading _ _ _ _ (header_is _ _ _ _ _ _ _ _ b c.in-Ok.is) refl c.row_of-row.ensures.inner c.if-row-eq0.true)

pub returns-else-row-eq0 : goal.returns-else-row-eq0
returns-else-row-eq0 c =
    let r = c.row_of-row.ensures in
    λ s high b. (enter_inner _ _ _ _ _ b.going b.reading _ _ _ _ (header_is _ _ _ _ _ _ _ _ b c.in-Ok.is) refl r.inner _ r.least c.if-row-eq0.false _ c.push.ensures)
