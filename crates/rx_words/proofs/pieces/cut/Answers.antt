use Rattle.std.proofs.lemmas.Str.Pattern.{split_once_first}
use Rattle.std.proofs.Common.{Some, None}
use Rattle.rx_words.proofs.PieceLemmas.{slice_split_whole, slice_split_found}
use Rattle.rx_words.proofs.pieces.cut.Goals as goal

pub returns-in-Some : goal.returns-in-Some
returns-in-Some c =
    let cut = Some (c.in-Some.piece, c.in-Some.rest) in
    let found = split_once_first c.args.separator c.args.text.now cut c.in-Some.ensures.cases c.requires in
    slice_split_found c.args.separator c.args.text.now c.in-Some.piece.now c.in-Some.rest.now found

pub returns-in-None : goal.returns-in-None
returns-in-None c =
    let none = split_once_first c.args.separator c.args.text.now None c.in-None.ensures.cases c.requires in
    slice_split_whole _ c.args.text.now none
