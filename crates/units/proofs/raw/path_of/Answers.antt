-- `units::raw::path_of` meets its contract: by how many steps there are, and the tests that led to each answer.
use Rattle.std.specs.Prelude.{Some}
use mathlib.Core.Path.{sym, ap, ◌∙◌}
use mathlib.Core.Bool.{true, false}
use native.Mathlib.Omega.{arith}
use Rattle.units.proofs.RawLaws.{path_one_by, path_no_prepend, path_no_replace, path_both}
use Rattle.units.proofs.raw.path_of.Goals as goal

pub returns-in-len1 : goal.returns-in-len1
returns-in-len1 c =
    let a = c.args in
    ap Some c.prepend_of-in-len1.ensures ∙ sym (path_one_by a.step_bytes.now a.metaspace a.steps.now _ true (omega arith) c.if-is_space_replace.ensures)

pub returns-in_default-2 : goal.returns-in_default-2
returns-in_default-2 c =
    let a = c.args in
    sym (path_one_by a.step_bytes.now a.metaspace a.steps.now _ false (omega arith) c.if-is_space_replace.ensures)

pub returns-in-len2 : goal.returns-in-len2
returns-in-len2 c =
    let a = c.args in
    sym (path_both a.step_bytes.now a.metaspace a.steps.now _ (omega arith) false c.if-is_prepend_mark.ensures c.if-is_space_replace-2.ensures c.if-not-metaspace_splits.ensures)

pub returns-in_default-3 : goal.returns-in_default-3
returns-in_default-3 c =
    let a = c.args in
    sym (path_both a.step_bytes.now a.metaspace a.steps.now _ (omega arith) true c.if-is_prepend_mark.ensures c.if-is_space_replace-2.ensures c.if-not-metaspace_splits.ensures)

pub returns-in_default-4 : goal.returns-in_default-4
returns-in_default-4 c =
    let a = c.args in
    sym (path_no_replace a.step_bytes.now a.metaspace a.steps.now _ (omega arith) c.if-is_prepend_mark.ensures c.if-is_space_replace-2.ensures)

pub returns-in_default-5 : goal.returns-in_default-5
returns-in_default-5 c =
    let a = c.args in
    sym (path_no_prepend a.step_bytes.now a.metaspace a.steps.now _ (omega arith) c.if-is_prepend_mark.ensures)
