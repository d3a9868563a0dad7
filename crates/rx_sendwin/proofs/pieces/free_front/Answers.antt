use Rattle.std.proofs.Common.{◌≡◌, ◌++◌, ◌∷◌, ◌∙◌, Option, ap, length, arith, option_to_list}
use Rattle.rx_pool.proofs.Holding.{keeps_then}
use Rattle.rx_sendwin.specs.declared.piece.HeldPiece.{HeldPiece}
use Rattle.rx_sendwin.specs.Pieces.{slots_in}
use Rattle.rx_sendwin.proofs.PieceSlots.{gives_of, gives_keeps, front_of_list}
use Rattle.rx_sendwin.proofs.pieces.free_front.Goals as goal

pub give-requires : goal.give-requires
give-requires c =
    let rest = c.pop_front.new.self.items in
    let is : c.loop.pieces.items ≡ c.unwrap-first.result ∷ rest = (
    c.pop_front.ensures.items ∙ ap (λ (o : Option HeldPiece). option_to_list o ++ rest) c.unwrap-first.ensures) in
    gives_of c.loop.pool c.loop.pieces.items rest c.unwrap-first.result is c.loop.invariant.keeps.holds

pub loop-preserved : goal.loop-preserved
loop-preserved c =
    let so = c.loop.invariant in
    let rest = c.pop_front.new.self.items in
    let is : c.loop.pieces.items ≡ c.unwrap-first.result ∷ rest = (
    c.pop_front.ensures.items ∙ ap (λ (o : Option HeldPiece). option_to_list o ++ rest) c.unwrap-first.ensures) in
    let given = (
    gives_keeps c.loop.pool c.give.new.self c.loop.pieces.items rest c.unwrap-first.result is c.give.ensures.given
    so.keeps.holds) in
    record {
      items =
          front_of_list c.loop.pieces.items rest c.unwrap-first.result c.loop.counter c.args.pieces.now.items is
          so.items;
      len =
          omega (
            arith,
            so.len,
            c.pop_front.ensures.len,
            ap (λ (o : Option HeldPiece). length (option_to_list o))
                c.unwrap-first.ensures,
          );
      capacity = c.pop_front.ensures.capacity ∙ so.capacity;
      bytes = c.give.ensures.bytes ∙ so.bytes;
      keeps =
          keeps_then c.args.pool.now c.loop.pool c.give.new.self (slots_in c.args.pieces.now.items)
          (slots_in c.loop.pieces.items) (slots_in rest) so.keeps given;
    }
