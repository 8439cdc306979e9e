-- `put` meets its contract: the number's bit is set already, or it is set and counted.
-- Assumes nothing.
use mathlib.Core.Path.{◌≡◌}
use Prim.Native.Nat.{ℕ, ◌+◌, ◌/◌, ◌%◌, ◌<◌}
use native.Mathlib.Omega.{arith}
use lib.ListN.{get_or}
use Rattle.words.proofs.KeptLaws.{kept_same}
use Rattle.rule_set.specs.Sets.{bit_of}
use Rattle.rule_set.proofs.BitLaws.{bit_fits, shifted}
use Rattle.rule_set.proofs.SetLaws.{set_few}
use Rattle.rule_set.proofs.PutLaws.{put_old, put-kept, put_new}
use Rattle.rule_set.proofs.put.Goals as goal

pub returns-then-byte-bit-eq1 : goal.returns-then-byte-bit-eq1
unfolding bit_of
returns-then-byte-bit-eq1 c =
    let byte : ℕ = get_or c.args.w.now (c.args.base + c.args.number / 8) 0 in
    let bit : ℕ = c.args.number % 8 in
    let is_set : bit_of byte bit ≡ 1 = omega (arith, c.if-byte-bit-eq1.true) in
    record { more = put_old _ _ _ c.requires.1 is_set; kept = kept_same _ _ _ }

pub overflow_add-count : goal.overflow_add-count
overflow_add-count c = omega (arith, c.load16-count.ensures, set_few _ _ c.requires.0.0 c.requires.0.1)

pub overflow_add-w : goal.overflow_add-w
unfolding bit_of
overflow_add-w c =
    let byte : ℕ = get_or c.args.w.now (c.args.base + c.args.number / 8) 0 in
    let bit : ℕ = c.args.number % 8 in
    let not_set : bit_of byte bit ≡ 0 = omega (arith, c.if-byte-bit-eq1.false) in
    let small : byte < 256 = omega arith in
    omega (arith, shifted bit (omega arith), bit_fits byte bit (omega arith) small not_set)

pub returns : goal.returns
unfolding bit_of
returns c =
    let byte : ℕ = get_or c.args.w.now (c.args.base + c.args.number / 8) 0 in
    let bit : ℕ = c.args.number % 8 in
    let not_set : bit_of byte bit ≡ 0 = omega (arith, c.if-byte-bit-eq1.false) in
    let stored = c.store16.ensures in
    let room = c.requires.0.1.room in
    let power = shifted bit (omega arith) in record { more = put_new _ _ _ _ _ _ c.requires.1 room stored power not_set _ c.load16-count.ensures (omega arith); kept = put-kept _ _ _ _ _ _ c.requires.1 room stored power }
