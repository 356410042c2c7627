-- Laws of where tokens end and of what strips take.
use Prim.Native.Nat.{ℕ, ◌+◌, ◌-◌, ◌≤◌, max}
use native.Mathlib.Omega.{arith}
use mathlib.Core.Path.{◌≡◌, ap}
use mathlib.Core.List.{List}
use lib.ListN.{length, take, drop, length-take, length-drop}
use lib.Seq.{slice, take-length}
use Rattle.utf8.specs.WhiteSpace.{trim_start, trim_end}
use Rattle.utf8.proofs.Trim.{trim_start_trimmed, trim_end_trimmed}
use Rattle.model.specs.Model.{contents}
use Rattle.sections.specs.declared.Match.{Match}
use Rattle.sections.specs.Matches.{end}
use Rattle.sections.specs.inner.Strips.{end_within}

-- The part from a place to the end.
pub part_end : (text : List ℕ) (place : ℕ) → slice place (length text) text ≡ drop place text
part_end text place = rw take-length

pub end-within : (contents : List (List ℕ)) (text rest : List ℕ) (match : Match) → rest ≡ drop (end contents match) text → length text - length rest ≡ end_within contents text match
unfolding end_within
end-within contents text rest match e = omega (arith, ap length e, length-drop (end contents match) text)

-- What is left of a section ends where it did at the latest.
pub stop_inside : (text : List ℕ) (start place : ℕ) → start + length (trim_end (slice start place text)) ≤ max start (length text)
stop_inside text start place =
    omega (arith, (trim_end_trimmed (slice start place text)).short, length-drop start (take place text), length-take place text)

pub white_short : (text : List ℕ) (place : ℕ) → length (trim_start (drop place text)) ≤ length (drop place text)
white_short text place = (trim_start_trimmed (drop place text)).short
