use Rattle.std.proofs.Common.{arith}
use Rattle.xdr_code.proofs.WordLaws.{next_word, no_word}
use Rattle.xdr_code.proofs.words.eight_words.Goals as goal

pub returns : goal.returns
returns c =
    let vs = c.args.eight.now in
    next_word vs 0 _ _ _ (omega arith) c.word_bytes.ensures
    (next_word vs 1 _ _ _ (omega arith) c.word_bytes-2.ensures
    (next_word vs 2 _ _ _ (omega arith) c.word_bytes-3.ensures
    (next_word vs 3 _ _ _ (omega arith) c.word_bytes-4.ensures
    (next_word vs 4 _ _ _ (omega arith) c.word_bytes-5.ensures
    (next_word vs 5 _ _ _ (omega arith) c.word_bytes-6.ensures
    (next_word vs 6 _ _ _ (omega arith) c.word_bytes-7.ensures
    (next_word vs 7 _ _ _ (omega arith) c.word_bytes-8.ensures (no_word vs 8 c.type_inv.eight))))))))
