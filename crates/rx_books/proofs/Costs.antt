-- What it costs to keep books right: as many entries as there are channels at the most.
use Rattle.std.proofs.Common.{◌≡◌, ◌≤◌, ◌<◌, ◌+◌, ◌*◌, ◌^◌, ℕ, List, length, Option, Some, None, ap, arith, refl}
use Rattle.std.proofs.Common.{◌∙◌, sym, subst}
use Rattle.std.proofs.lemmas.List.{length-map}
use Rattle.rx_due.specs.Book.{moment_of}
use Rattle.rx_due.specs.Cost.{AtMost}
use Rattle.rx_model.specs.Names.{Connection}
use Rattle.rx_rules.specs.Looks.{Looks}
use Rattle.rx_node.specs.Mirrors.{IsKey}
use Rattle.rx_node.specs.Node.{KeepsNode, NodeState}
use Rattle.rx_books.specs.Books.{BooksState, HasEntries, IsBooked}
use Rattle.rx_books.specs.Costs.{AtMostForPoll, silent_count}
use Rattle.rx_books.proofs.ChannelMoments.{silence_key}
use Rattle.rx_books.proofs.LeastOf.{rank_key}
use Rattle.rx_table.proofs.Noted.{few_entries}

-- no key past those of the channels has a moment
past : (n : NodeState) (book : List (Option ℕ)) → ((key moment : ℕ) → moment_of book key ≡ Some moment → IsKey n key)
    → (key : ℕ) → 4 * length n.table.conns ≤ key → moment_of book key ≡ None
past n book keys key high = of (moment_of book key) refl
  where
    of : (o : Option ℕ) → moment_of book key ≡ o → o ≡ None
    of None none = refl
    of (Some moment) there = absurd (let its = keys key moment there in omega (arith, its, high))

-- right books have no more entries than there are channels
pub booked_entries : (n : NodeState) (b : BooksState) → IsBooked n b → HasEntries b (4 * length n.table.conns)
booked_entries n b booked =
    record {
      ranks = few_entries b.ranks (4 * length n.table.conns) (past n b.ranks (rank_key n b booked));
      silences = few_entries b.silences (4 * length n.table.conns)
          (past n b.silences (λ key moment there. silence_key n key moment (sym (booked.each key).silence ∙ there)));
    }

-- a node that stays what it was has as many connections
pub kept_conns : (old new : NodeState) → KeepsNode old new → length new.table.conns ≡ length old.table.conns
kept_conns old new kept =
    sym (length-map new.table.conns (λ r. r.connection)) ∙ ap (λ (xs : List Connection). length xs) kept.names
    ∙ length-map old.table.conns (λ r. r.connection)

module _ (n z : NodeState) (b e : BooksState) (conns : ℕ) where
  -- what it costs to note a channel in right books, so that they are right books of a node that stays what it was
  pub noted_cost : length n.table.conns ≡ conns → KeepsNode n z → IsBooked n b → IsBooked z e → (before after : ℕ)
      → ((m d : ℕ) → HasEntries b m → HasEntries e m → 2 * m + 1 < 2 ^ (d + 1) → AtMost (16 * d + 18) before after)
      → (d : ℕ) → 2 * (4 * conns) + 1 < 2 ^ (d + 1) → AtMost (16 * d + 18) before after
  noted_cost same kept was is before after most d power =
      most (4 * conns) d (subst (λ (c : ℕ). HasEntries b (4 * c)) same (booked_entries n b was))
      (subst (λ (c : ℕ). HasEntries e (4 * c)) (kept_conns n z kept ∙ same) (booked_entries z e is)) power

-- what silent calls cost, and what is given then, is no more than a poll may cost
pub poll_cost : (l : Looks) (a b c : ℕ)
    → ((d : ℕ) → 2 * (4 * length l.conns) + 1 < 2 ^ (d + 1) → AtMost (silent_count l * (16 * d + 21) + 1) a b)
    → ((d : ℕ) → 2 * (4 * length l.conns) + 1 < 2 ^ (d + 1) → AtMost (24 * d + 30) b c) → AtMostForPoll l a c
poll_cost l a b c before then_ =
    λ d power. (
    let one = before d power in
    let two = then_ d power in
    record { grows = omega (arith, one.grows, two.grows); most = omega (arith, one.most, two.most) })
