-- `whole_table::read_table` meets its contract: the length, the fields and the four searches say which case of `read_table` holds, and what each search leaves in the work space.
-- Assumes nothing.
use Rattle.std.proofs.lemmas.Result.{err_from_is_err_and}
use mathlib.Core.Path.{sym, ◌∙◌}
use Rattle.words.proofs.KeptLaws.{kept_same}
use Rattle.tables.proofs.WholeLaws.{FieldsTold, fields_told, too_long, fields_refused}
use Rattle.whole_table.proofs.ReadLaws.{reads_refused, Begun, begun, asked_6, asked_7, asked_8, asked_9, after_6, after_7, after_8, after_9, at_6, at_7, at_8, at_9}
use Rattle.whole_table.proofs.read_table.Goals as goal
use Rattle.whole_table.proofs.read_table.Goals.{In_ok-parts}

pub returns-then-end-gt65535 : goal.returns-then-end-gt65535
returns-then-end-gt65535 c = rw c.new.ensures (reads_refused (kept_same _ _ _) _ (too_long _ c.if-end-gt65535.true))

pub returns-in_err-parts : goal.returns-in_err-parts
returns-in_err-parts c =
    let p = err_from_is_err_and c.from_residual.result c.from_residual.ensures.1 in
    let b = begun {s = c.args.s.now} c.if-end-gt65535.false c.requires c.read_fields.auto.work c.read_fields.ensures.kept in
    rw (p.1, p.2) (reads_refused b.kept _ (fields_refused _ c.if-end-gt65535.false _ (sym c.read_fields.ensures.value ∙ c.in_err-parts.was)))

-- what is known behind the fields
fields : (c : In_ok-parts) → FieldsTold c.args.s.now c.in_ok-parts.parts
fields c = fields_told _ _ (sym c.read_fields.ensures.value ∙ c.in_ok-parts.was)

first : (c : In_ok-parts) → Begun c.args.s.now c.args.w.now c.read_fields.new.work c.args.other c.args.base
first c = begun c.if-end-gt65535.false c.requires c.read_fields.auto.work c.read_fields.ensures.kept

pub first_clash-repeated-requires : goal.first_clash-repeated-requires
first_clash-repeated-requires c =
    let here = (goal.at.first_clash-repeated-requires c).In_ok-parts in
    let b = first here in
    asked_6 (fields here) b

pub returns-in_err-refuse_at : goal.returns-in_err-refuse_at
returns-in_err-refuse_at c =
    let here = (goal.at.returns-in_err-refuse_at c).In_ok-parts in
    let b = first here in
    let p = err_from_is_err_and c.from_residual-in_err-refuse_at.result c.from_residual-in_err-refuse_at.ensures.1 in
    rw (p.1, p.2) (at_6 (fields here) _ c.first_clash-repeated.auto.w b c.first_clash-repeated.ensures _ (sym c.refuse_at.ensures ∙ c.in_err-refuse_at.was))

pub first_repeat-recounted-requires : goal.first_repeat-recounted-requires
first_repeat-recounted-requires c =
    let here = (goal.at.first_repeat-recounted-requires c).In_ok-parts in
    let b = first here in
    let u = after_6 (fields here) _ c.first_clash-repeated.auto.w b c.first_clash-repeated.ensures (sym c.refuse_at.ensures ∙ c.in_ok-refuse_at.was) in
    asked_7 (fields here) u.begun

pub returns-in_err-refuse_at-2 : goal.returns-in_err-refuse_at-2
returns-in_err-refuse_at-2 c =
    let here = (goal.at.returns-in_err-refuse_at-2 c).In_ok-parts in
    let b = first here in
    let u = after_6 (fields here) _ c.first_clash-repeated.auto.w b c.first_clash-repeated.ensures (sym c.refuse_at.ensures ∙ c.in_ok-refuse_at.was) in
    let p = err_from_is_err_and c.from_residual-in_err-refuse_at-2.result c.from_residual-in_err-refuse_at-2.ensures.1 in
    rw (p.1, p.2) (at_7 (fields here) _ c.first_repeat-recounted.auto.w u c.first_repeat-recounted.ensures _ (sym c.refuse_at-2.ensures ∙ c.in_err-refuse_at-2.was))

pub first_clash-redefined-requires : goal.first_clash-redefined-requires
first_clash-redefined-requires c =
    let here = (goal.at.first_clash-redefined-requires c).In_ok-parts in
    let b = first here in
    let u = after_6 (fields here) _ c.first_clash-repeated.auto.w b c.first_clash-repeated.ensures (sym c.refuse_at.ensures ∙ c.in_ok-refuse_at.was) in
    let v = after_7 (fields here) _ c.first_repeat-recounted.auto.w u c.first_repeat-recounted.ensures (sym c.refuse_at-2.ensures ∙ c.in_ok-refuse_at-2.was) in
    asked_8 (fields here) v.unrepeated.begun

pub returns-in_err-refuse_at-3 : goal.returns-in_err-refuse_at-3
returns-in_err-refuse_at-3 c =
    let here = (goal.at.returns-in_err-refuse_at-3 c).In_ok-parts in
    let b = first here in
    let u = after_6 (fields here) _ c.first_clash-repeated.auto.w b c.first_clash-repeated.ensures (sym c.refuse_at.ensures ∙ c.in_ok-refuse_at.was) in
    let v = after_7 (fields here) _ c.first_repeat-recounted.auto.w u c.first_repeat-recounted.ensures (sym c.refuse_at-2.ensures ∙ c.in_ok-refuse_at-2.was) in
    let p = err_from_is_err_and c.from_residual-in_err-refuse_at-3.result c.from_residual-in_err-refuse_at-3.ensures.1 in
    rw (p.1, p.2) (at_8 (fields here) _ c.first_clash-redefined.auto.w v c.first_clash-redefined.ensures _ (sym c.refuse_at-3.ensures ∙ c.in_err-refuse_at-3.was))

pub first_repeat-reused-requires : goal.first_repeat-reused-requires
first_repeat-reused-requires c =
    let here = (goal.at.first_repeat-reused-requires c).In_ok-parts in
    let b = first here in
    let u = after_6 (fields here) _ c.first_clash-repeated.auto.w b c.first_clash-repeated.ensures (sym c.refuse_at.ensures ∙ c.in_ok-refuse_at.was) in
    let v = after_7 (fields here) _ c.first_repeat-recounted.auto.w u c.first_repeat-recounted.ensures (sym c.refuse_at-2.ensures ∙ c.in_ok-refuse_at-2.was) in
    let d = after_8 (fields here) _ c.first_clash-redefined.auto.w v c.first_clash-redefined.ensures (sym c.refuse_at-3.ensures ∙ c.in_ok-refuse_at-3.was) in
    asked_9 (fields here) d.uniform.unrepeated.begun

pub returns-in_err-refuse_at-4 : goal.returns-in_err-refuse_at-4
returns-in_err-refuse_at-4 c =
    let here = (goal.at.returns-in_err-refuse_at-4 c).In_ok-parts in
    let b = first here in
    let u = after_6 (fields here) _ c.first_clash-repeated.auto.w b c.first_clash-repeated.ensures (sym c.refuse_at.ensures ∙ c.in_ok-refuse_at.was) in
    let v = after_7 (fields here) _ c.first_repeat-recounted.auto.w u c.first_repeat-recounted.ensures (sym c.refuse_at-2.ensures ∙ c.in_ok-refuse_at-2.was) in
    let d = after_8 (fields here) _ c.first_clash-redefined.auto.w v c.first_clash-redefined.ensures (sym c.refuse_at-3.ensures ∙ c.in_ok-refuse_at-3.was) in
    let p = err_from_is_err_and c.from_residual-in_err-refuse_at-4.result c.from_residual-in_err-refuse_at-4.ensures.1 in
    rw (p.1, p.2) (at_9 (fields here) _ c.first_repeat-reused.auto.w d c.first_repeat-reused.ensures _ (sym c.refuse_at-4.ensures ∙ c.in_err-refuse_at-4.was))

pub returns : goal.returns
returns c =
    let here = (goal.at.returns c).In_ok-parts in
    let b = first here in
    let u = after_6 (fields here) _ c.first_clash-repeated.auto.w b c.first_clash-repeated.ensures (sym c.refuse_at.ensures ∙ c.in_ok-refuse_at.was) in
    let v = after_7 (fields here) _ c.first_repeat-recounted.auto.w u c.first_repeat-recounted.ensures (sym c.refuse_at-2.ensures ∙ c.in_ok-refuse_at-2.was) in
    let d = after_8 (fields here) _ c.first_clash-redefined.auto.w v c.first_clash-redefined.ensures (sym c.refuse_at-3.ensures ∙ c.in_ok-refuse_at-3.was) in
    after_9 (fields here) _ c.first_repeat-reused.auto.w d c.first_repeat-reused.ensures (sym c.refuse_at-4.ensures ∙ c.in_ok-refuse_at-4.was)
