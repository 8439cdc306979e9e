-- `flatten::flatten_parts` meets its contract: the walk begins from the stated goals, and how it ended says which ending of the entry it is.
-- Assumes nothing.
use mathlib.Core.Path.{◌≡◌, sym, ap, ◌∙◌}
use Rattle.std.proofs.Common.{rules, ◌≤◌, arith}
use Rattle.std.specs.Prelude.{Ok, Err}
use Rattle.std.proofs.lemmas.Grind.{common_steps}
use Rattle.format.specs.Refusals.{number}
use Rattle.answers.specs.Answers.{refusal}
use Rattle.flattener.proofs.FlattenLaws.{either}
use Rattle.format.specs.Results.{gives}
use Rattle.tables.specs.Tables.{Table}
use Rattle.files.specs.Proofs.{Proof, read_proof_fields}
use Rattle.entries.specs.LentSpace.{Written}
use Rattle.input_arities.proofs.ProofLaws.{Small, small, term_room}
use Rattle.nodes.specs.Walks.{Ends}
use Rattle.flattener.specs.Forests.{TableReady}
use Rattle.flattener.proofs.StartLaws.{same_parts, Started, aim, begins, walkable, ends_refused, nodes_below, ends_accepted, ends_written, ends_other}
use Rattle.flattener.proofs.flatten.flatten_parts.Goals.{After-put_range, After-walk-walked, In_ok-shown}
use Rattle.flattener.proofs.flatten.flatten_parts.Goals as goal

pub note_arities-requires : goal.note_arities-requires
note_arities-requires c = (c.requires.1.0.term, term_room _ c.requires.1.0 c.requires.1.1 _ c.requires.1.2 _ (omega (arith, c.requires.2)))

pub put_opens-requires : goal.put_opens-requires
put_opens-requires c =
    let sizes : Small c.args.proof.now c.args.parts = small _ c.requires.1.0 c.requires.1.1 _ c.requires.1.2 in
    (omega (arith, sizes.goals, c.requires.2, c.note_arities.auto.work), omega (arith, sizes.goals_inside))

pub overflow_mul-goals : goal.overflow_mul-goals
overflow_mul-goals c =
    let sizes : Small c.args.proof.now c.args.parts = small _ c.requires.1.0 c.requires.1.1 _ c.requires.1.2 in
    omega (arith, sizes.goals)

pub overflow_sub-goals : goal.overflow_sub-goals
overflow_sub-goals c =
    let sizes : Small c.args.proof.now c.args.parts = small _ c.requires.1.0 c.requires.1.1 _ c.requires.1.2 in
    omega (arith, sizes.goals)

pub put_range-requires : goal.put_range-requires
put_range-requires c =
    let sizes : Small c.args.proof.now c.args.parts = small _ c.requires.1.0 c.requires.1.1 _ c.requires.1.2 in (
      omega (arith, sizes.goals, c.requires.2, c.note_arities.auto.work, c.put_opens.auto.s),
      omega (arith, sizes.goals),
    )

-- what was made before the walk
started : (c : After-put_range) (T : Table) (p : Proof) → TableReady T c.args.table.now c.args.first c.args.work.now × (read_proof_fields c.args.proof.now ≡ gives p)
    → Started T p c.args.table.now c.args.first c.args.proof.now c.args.parts c.args.work.now c.note_arities.new.work c.put_opens.new.s c.put_range.new.s
started c T p r =
    let is = same_parts _ c.requires.1.0 p _ c.requires.1.1 c.requires.1.2 r.1 in
    record {
      ready = r.0;
      reads = r.1;
      parts_are = is;
      space = c.requires.2;
      noted = c.note_arities.ensures p.term (term_room _ p r.1 _ is _ (omega (arith, c.requires.2)));
      same_length = c.note_arities.auto.work;
      opened = c.put_opens.ensures;
      pushed = c.put_range.ensures;
    }

-- how it ended
ended : (c : After-walk-walked) (T : Table) (p : Proof) (x : Started T p c.args.table.now c.args.first c.args.proof.now c.args.parts c.args.work.now c.note_arities.new.work c.put_opens.new.s c.put_range.new.s)
    → Ends (aim _ _ _ _ _ _ _ _ _ _ x) c.args.proof.now c.walk-walked.new.work c.walk-walked.result
ended c T p x = c.walk-walked.ensures T (aim _ _ _ _ _ _ _ _ _ _ x) (walkable _ _ _ _ _ _ _ _ _ _ x) (begins _ _ _ _ _ _ _ _ _ _ x)

pub walk-walked-requires : goal.walk-walked-requires
walk-walked-requires c =
    let sizes : Small c.args.proof.now c.args.parts = small _ c.requires.1.0 c.requires.1.1 _ c.requires.1.2 in
    let asked : TableReady c.requires.0.0 c.args.table.now c.args.first c.args.work.now × (read_proof_fields c.args.proof.now ≡ gives c.requires.1.0) = (c.requires.0.1, c.requires.1.1) in
    let x = started (goal.at.walk-walked-requires c).After-put_range c.requires.0.0 c.requires.1.0 asked in
    ((c.requires.0.0, aim _ _ _ _ _ _ _ _ _ _ x, walkable _ _ _ _ _ _ _ _ _ _ x, begins _ _ _ _ _ _ _ _ _ _ x), sizes.goals)

-- what the walk shows, where it is not refused
gave : (c : In_ok-shown) → c.walk-walked.result ≡ Ok c.in_ok-shown.shown
gave c = grind (arith, common_steps)

pub map_err-requires : goal.map_err-requires
map_err-requires c = λ e is.
    let x = started (goal.at.map_err-requires c).After-put_range c.requires.0.0 c.requires.1.0 (c.requires.0.1, c.requires.1.1) in
    let low : e.place ≤ 65535 = omega (arith, (ends_refused _ _ _ _ _ _ _ _ _ _ x _ _ (ended (goal.at.map_err-requires c).After-walk-walked _ _ x) c.walk-walked.auto.work _ is c.args.out.now).1) in
    search rules

pub overflow_add-rest : goal.overflow_add-rest
overflow_add-rest c =
    let sizes : Small c.args.proof.now c.args.parts = small _ c.requires.1.0 c.requires.1.1 _ c.requires.1.2 in
    omega (arith, sizes.remaining_inside, sizes.file)

pub same_goals-requires : goal.same_goals-requires
same_goals-requires c =
    let asked : TableReady c.requires.0.0 c.args.table.now c.args.first c.args.work.now × (read_proof_fields c.args.proof.now ≡ gives c.requires.1.0) = (c.requires.0.1, c.requires.1.1) in
    let x = started (goal.at.same_goals-requires c).After-put_range c.requires.0.0 c.requires.1.0 asked in
    nodes_below _ _ _ _ _ _ _ _ _ _ x _ _ (ended (goal.at.same_goals-requires c).After-walk-walked _ _ x) c.walk-walked.auto.work _ (gave (goal.at.same_goals-requires c).In_ok-shown)

pub write_flat-requires : goal.write_flat-requires
write_flat-requires c =
    let asked : TableReady c.requires.0.0 c.args.table.now c.args.first c.args.work.now × (read_proof_fields c.args.proof.now ≡ gives c.requires.1.0) = (c.requires.0.1, c.requires.1.1) in
    let x = started (goal.at.write_flat-requires c).After-put_range c.requires.0.0 c.requires.1.0 asked in (
      c.requires.0.0,
      c.requires.1.0,
      ends_accepted _ _ _ _ _ _ _ _ _ _ x _ _ (ended (goal.at.write_flat-requires c).After-walk-walked _ _ x) c.walk-walked.auto.work _ (gave (goal.at.write_flat-requires c).In_ok-shown)
          (sym c.same_goals.ensures ∙ c.if-not-same_goals.false),
    )

pub refused-requires : goal.refused-requires
refused-requires c =
    let sizes : Small c.args.proof.now c.args.parts = small _ c.requires.1.0 c.requires.1.1 _ c.requires.1.2 in
    (omega (arith, sizes.remaining_inside, sizes.file), omega arith)

pub returns-in_err-shown : goal.returns-in_err-shown
returns-in_err-shown c =
    let m = goal.at.returns-in_err-shown c in
    let o = c.args.out.now in
    either c.walk-walked.result
    (λ r is. absurd (grind (arith, common_steps)))
    (λ e is.
    let made : c.from_residual.result ≡ Err (refusal (number e.cause) 2 e.place 0) = grind (arith, common_steps) in
    let left = λ (T : Table) (p : Proof) (k : TableReady T c.args.table.now c.args.first c.args.work.now) (r : read_proof_fields c.args.proof.now ≡ gives p).
    let x = started m.After-put_range T p (k, r) in
    sym (ends_refused _ _ _ _ _ _ _ _ _ _ x _ _ (ended m.After-walk-walked T p x) c.walk-walked.auto.work _ is o).0 in
    record { answer = λ T p k r. rw made (ap (λ (y : Written). y.answer) (left T p k r)); out = λ T p k r. ap (λ (y : Written). y.out) (left T p k r) })

pub returns-then-not-same_goals : goal.returns-then-not-same_goals
returns-then-not-same_goals c =
    let m = goal.at.returns-then-not-same_goals c in
    let e = sym c.same_goals.ensures ∙ c.if-not-same_goals.true in
    let o = c.args.out.now in
    let left = λ (T : Table) (p : Proof) (k : TableReady T c.args.table.now c.args.first c.args.work.now) (r : read_proof_fields c.args.proof.now ≡ gives p).
    let x = started m.After-put_range T p (k, r) in
    sym (ends_other _ _ _ _ _ _ _ _ _ _ x _ _ (ended m.After-walk-walked T p x) c.walk-walked.auto.work _ (gave m.In_ok-shown) e o).0 in
    record { answer = λ T p k r. c.refused.ensures ∙ ap (λ (y : Written). y.answer) (left T p k r); out = λ T p k r. ap (λ (y : Written). y.out) (left T p k r) }

pub returns : goal.returns
returns c =
    let m = goal.at.returns c in
    let t = gave m.In_ok-shown in
    let e = sym c.same_goals.ensures ∙ c.if-not-same_goals.false in
    let f = c.write_flat.ensures in
    let o = c.args.out.now in record {
      answer = (λ T p k r.
          let x = started m.After-put_range T p (k, r) in
          f.answer T p (ends_accepted _ _ _ _ _ _ _ _ _ _ x _ _ (ended m.After-walk-walked T p x) c.walk-walked.auto.work _ t e)
          ∙ ap (λ (y : Written). y.answer) (sym (ends_written _ _ _ _ _ _ _ _ _ _ x _ _ (ended m.After-walk-walked T p x) c.walk-walked.auto.work _ t e o)));
      out = (λ T p k r.
          let x = started m.After-put_range T p (k, r) in
          f.out T p (ends_accepted _ _ _ _ _ _ _ _ _ _ x _ _ (ended m.After-walk-walked T p x) c.walk-walked.auto.work _ t e)
          ∙ ap (λ (y : Written). y.out) (sym (ends_written _ _ _ _ _ _ _ _ _ _ x _ _ (ended m.After-walk-walked T p x) c.walk-walked.auto.work _ t e o)));
    }
