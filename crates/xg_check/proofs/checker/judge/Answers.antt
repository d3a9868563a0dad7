use Rattle.std.proofs.Common.{◌≡◌, Some, None, ap, ◌∙◌}
use Rattle.xg_check.specs.Marks.{marks_in}
use Rattle.xg_check.specs.Views.{marks_of}
use Rattle.xg_check.proofs.CheckLaws.{after_twice, after_unknown, after_size, after_endless, twice_fault, unknown_fault}
use Rattle.xg_check.proofs.CheckLaws.{size_fault, endless_fault}
use Rattle.xg_check.proofs.checker.judge.Goals as goal

pub returns-in-Some-clause-fault : goal.returns-in-Some-clause-fault
returns-in-Some-clause-fault c =
    let tree = c.args.tree.now in
    let ms = marks_of c.as_slice-marks.result.now in
    let ms_is : ms ≡ marks_in tree.items = ap marks_of c.as_slice-marks.ensures.value ∙ c.in_ok-marks.ensures in
    twice_fault tree c.in-Some.name c.in_ok-name-2.name c.in_ok-name-2.ensures
    (after_twice tree c.args.constants.now c.args.found.now ms c.requires.constants c.requires.found ms_is
    c.in_ok-name.field-0 (Some c.in-Some.name) c.in-Some.is c.in_ok-name.ensures)

pub returns-in-Some-unknown-clause-fault : goal.returns-in-Some-unknown-clause-fault
returns-in-Some-unknown-clause-fault c =
    let tree = c.args.tree.now in
    let cs = c.args.constants.now in
    let ts = c.args.found.now in
    let ms = marks_of c.as_slice-marks.result.now in
    let ms_is : ms ≡ marks_in tree.items = ap marks_of c.as_slice-marks.ensures.value ∙ c.in_ok-marks.ensures in
    unknown_fault tree c.in-Some-unknown.name c.in_ok-name-3.name c.in_ok-name-3.ensures
    (after_twice tree cs ts ms c.requires.constants c.requires.found ms_is c.in_ok-name.field-0 None c.in_default.is
    c.in_ok-name.ensures)
    (after_unknown tree cs ts ms c.requires.constants c.requires.found ms_is c.unknown.result
    (Some c.in-Some-unknown.name)
    c.in-Some-unknown.is c.unknown.ensures)

pub returns-in-Some-2-clause-fault : goal.returns-in-Some-2-clause-fault
returns-in-Some-2-clause-fault c =
    let tree = c.args.tree.now in
    let cs = c.args.constants.now in
    let ts = c.args.found.now in
    let ms = marks_of c.as_slice-marks.result.now in
    let ms_is : ms ≡ marks_in tree.items = ap marks_of c.as_slice-marks.ensures.value ∙ c.in_ok-marks.ensures in
    size_fault tree c.in-Some-2.name c.in_ok-name-5.name c.in_ok-name-5.ensures
    (after_twice tree cs ts ms c.requires.constants c.requires.found ms_is c.in_ok-name.field-0 None c.in_default.is
    c.in_ok-name.ensures)
    (after_unknown tree cs ts ms c.requires.constants c.requires.found ms_is c.unknown.result None
    c.in_default-unknown.is
    c.unknown.ensures)
    (after_size tree cs ts ms c.requires.constants c.requires.found ms_is c.in_ok-name-4.field-0 (Some c.in-Some-2.name)
    c.in-Some-2.is c.in_ok-name-4.ensures)

pub returns-in-Some-3-clause-fault : goal.returns-in-Some-3-clause-fault
returns-in-Some-3-clause-fault c =
    let tree = c.args.tree.now in
    let cs = c.args.constants.now in
    let ts = c.args.found.now in
    let ms = marks_of c.as_slice-marks.result.now in
    let ms_is : ms ≡ marks_in tree.items = ap marks_of c.as_slice-marks.ensures.value ∙ c.in_ok-marks.ensures in
    endless_fault tree c.in-Some-3.name c.in_ok-name-7.name c.in_ok-name-7.ensures
    (after_twice tree cs ts ms c.requires.constants c.requires.found ms_is c.in_ok-name.field-0 None c.in_default.is
    c.in_ok-name.ensures)
    (after_unknown tree cs ts ms c.requires.constants c.requires.found ms_is c.unknown.result None
    c.in_default-unknown.is
    c.unknown.ensures)
    (after_size tree cs ts ms c.requires.constants c.requires.found ms_is c.in_ok-name-4.field-0 None c.in_default-2.is
    c.in_ok-name-4.ensures)
    (after_endless tree cs ts ms c.requires.constants c.requires.found ms_is c.in_ok-name-6.field-0
    (Some c.in-Some-3.name)
    c.in-Some-3.is c.in_ok-name-6.ensures)

pub returns-clause-faultless : goal.returns-clause-faultless
returns-clause-faultless c =
    let tree = c.args.tree.now in
    let cs = c.args.constants.now in
    let ts = c.args.found.now in
    let ms = marks_of c.as_slice-marks.result.now in
    let ms_is : ms ≡ marks_in tree.items = ap marks_of c.as_slice-marks.ensures.value ∙ c.in_ok-marks.ensures in
    record {
      twice = after_twice tree cs ts ms c.requires.constants c.requires.found ms_is c.in_ok-name.field-0 None
          c.in_default.is
          c.in_ok-name.ensures;
      unknown = after_unknown tree cs ts ms c.requires.constants c.requires.found ms_is c.unknown.result None
          c.in_default-unknown.is c.unknown.ensures;
      size = after_size tree cs ts ms c.requires.constants c.requires.found ms_is c.in_ok-name-4.field-0 None
          c.in_default-2.is
          c.in_ok-name-4.ensures;
      endless = after_endless tree cs ts ms c.requires.constants c.requires.found ms_is c.in_ok-name-6.field-0 None
          c.in_default-3.is c.in_ok-name-6.ensures;
    }
