use Rattle.std.proofs.Common.{◌≡◌, ◌<◌, ◌+◌, ◌*◌, ◌/◌, ℕ}
use Rattle.rx_books.specs.Books.{IsNoted, KeepsPlaces}
use Rattle.rx_books.proofs.books.Books.refresh_place.Given as goal

abbrev pub invariant-loop-chan : goal.invariant-loop-chan
invariant-loop-chan g l =
    record {
      noted : (q : ℕ) → q / 4 ≡ l.place → q < 4 * l.place + l.chan → IsNoted l.node l.self q;
      keeps : KeepsPlaces l.fn.self l.self l.place;
    }
