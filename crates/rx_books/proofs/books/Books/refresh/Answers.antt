use Rattle.std.proofs.Common.{◌≡◌, ◌≤◌, ◌∙◌, ap, sym, subst, arith, length, None, Option, ℕ}
use Rattle.rx_due.specs.Book.{entries_of, moment_of}
use Rattle.rx_node.specs.Moments.{IsRankAt}
use Rattle.rx_books.specs.Books.{BooksState}
use Rattle.rx_table.proofs.Noted.{set_here}
use Rattle.rx_books.proofs.books.Books.refresh.Goals as goal

pub note-requires : goal.note-requires
note-requires g c =
    let ranks : length c.self.inside.ranks ≡ length c.args.self.now.ranks =
    ap (λ (b : BooksState). length b.ranks) c.self.view_is in
    omega (arith, ranks, c.requires.ranks, c.requires.key, c.conns-conns.ensures.room)

pub note-requires-2 : goal.note-requires-2
note-requires-2 g c =
    let silences : length c.self.inside.silences ≡ length c.args.self.now.silences =
    ap (λ (b : BooksState). length b.silences) c.self.view_is in
    omega (arith, silences, c.requires.silences, c.requires.key, c.conns-conns.ensures.room)

pub returns-clause-noted : goal.returns-clause-noted
returns-clause-noted g c =
    let key = c.args.key in
    let node = c.args.node.now in
    let ranks : length c.self.inside.ranks ≡ length c.args.self.now.ranks =
    ap (λ (b : BooksState). length b.ranks) c.self.view_is in
    let silences : length c.self.inside.silences ≡ length c.args.self.now.silences =
    ap (λ (b : BooksState). length b.silences) c.self.view_is in
    record {
      rank = subst (λ (r : Option ℕ). IsRankAt node key r)
          (sym (ap (λ (b : _). moment_of b key) c.note.ensures.updates
          ∙ set_here c.self.inside.ranks key c.rank_on-rank.result None
          (omega (arith, ranks, c.requires.ranks, c.requires.key, c.conns-conns.ensures.room))))
          c.rank_on-rank.ensures.rank;
      silence = ap (λ (b : _). moment_of b key) c.note-2.ensures.updates
          ∙ set_here c.self.inside.silences key c.death_on-death.result None
          (omega (arith, silences, c.requires.silences, c.requires.key, c.conns-conns.ensures.room))
          ∙ c.death_on-death.ensures.silence;
    }

pub returns-clause-steps : goal.returns-clause-steps
returns-clause-steps g c =
    λ n d before after power. (
    let ranks : entries_of c.self.inside.ranks ≤ n =
    subst (λ (b : BooksState). entries_of b.ranks ≤ n) (sym c.self.view_is) before.ranks in
    let silences : entries_of c.self.inside.silences ≤ n =
    subst (λ (b : BooksState). entries_of b.silences ≤ n) (sym c.self.view_is) before.silences in
    let rank = c.rank_on-rank.ensures.steps_taken in
    let death = c.death_on-death.ensures.steps_taken in
    let one = c.note.ensures.steps n ranks after.ranks d power in
    let two = c.note-2.ensures.steps n silences after.silences d power in
    record {
      grows = omega (arith, rank.grows, death.grows, one.grows, two.grows);
      most = omega (arith, rank.most, death.most, one.most, two.most);
    })
