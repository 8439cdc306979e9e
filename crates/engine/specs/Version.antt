-- The version of header and library (docs/DECISIONS.md, C45): the minor number goes up with each new call, and with new sizes of one; the major number when every program
-- must be compiled anew.
-- 1.0 had five calls; read_text, write_text and search came after it. With 2.0 the answer has its final twelve numbers (P6). run_halting and resume came with 2.2 (P1).
-- 2.3 brought no call: frames and saved state of these two have other sizes (P12).
use Rattle.std.specs.Prelude.{ℕ}

abbrev pub version_major : ℕ
version_major = 2

abbrev pub version_minor : ℕ
version_minor = 3
