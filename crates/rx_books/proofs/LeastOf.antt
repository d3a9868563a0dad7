-- The first of the book of ranks is the least item of the node, and that of the book of silences its first death.
use Rattle.std.proofs.Common.{◌≡◌, ◌<◌, ◌+◌, ◌*◌, ◌/◌, ◌%◌, ℕ, suc, Bool, List, length}
use Rattle.std.proofs.Common.{Option, Some, None, option_map, refl, ◌∙◌, ap, sym, subst, arith, if◌then◌else◌}
use Rattle.std.specs.Prelude.{IfSome, IsNone, slice_get, option_and_then}
use Rattle.rx_model.specs.Names.{Channel}
use Rattle.rx_model.specs.declared.wire.TheConstants.{SILENCE_MS}
use Rattle.rx_due.specs.Book.{IsLeast, entries_of, moment_of}
use Rattle.rx_rules.specs.Classes.{Class}
use Rattle.rx_rules.specs.Items.{Item, all_channels, channel_items, deaths, items}
use Rattle.rx_rules.specs.Least.{least_by}
use Rattle.rx_rules.specs.Looks.{Looks, latest}
use Rattle.rx_rules.specs.Setup.{Setup, is_client}
use Rattle.rx_call.specs.Kept.{call_under}
use Rattle.rx_call.specs.Standing.{EndOfCall}
use Rattle.rx_table.specs.Records.{seat_at}
use Rattle.rx_table.specs.declared.seat.Seat.{Seat}
use Rattle.rx_node.specs.Due.{AreDueAs, death_of, lesser_of, owed_at, unsilenced}
use Rattle.rx_node.specs.Mirrors.{IsChannel, IsKey, Mirrors}
use Rattle.rx_node.specs.Moments.{IsRankOf, active_end, end_while_active, owed_on, proved_at}
use Rattle.rx_node.specs.Node.{NodeState, setup_of}
use Rattle.rx_node.specs.declared.item.Due.{Due}
use Rattle.rx_node.specs.declared.item.Item.{Item as CodeItem}
use Rattle.rx_node.proofs.KeptKeys.{seat_key}
use Rattle.rx_node.proofs.LeastItems.{channel_with, least_all, least_next, least_to}
use Rattle.rx_node.proofs.OwedItems.{has_channel}
use Rattle.rx_books.specs.Books.{BooksState, IsBooked}
use Rattle.rx_books.proofs.ChannelMoments.{rank_is, silence_is, silence_key}
use Rattle.rx_books.proofs.FirstDeath.{DiesAt, death_dies, first_death}
use Rattle.rx_books.proofs.FirstOf.{first_of_all, none_of_all}
use Rattle.rx_table.proofs.Noted.{none_there}

-- a key with a rank is one
pub rank_key : (n : NodeState) (b : BooksState) → IsBooked n b → (key moment : ℕ) → moment_of b.ranks key ≡ Some moment
    → IsKey n key
rank_key n b booked key moment is = of (seat_at n.table key) refl
  where
    of : (o : Option Seat) → seat_at n.table key ≡ o → IsKey n key
    of (Some seat) there = seat_key n key seat there
    of None none =
        absurd (
        let owed : owed_on n key ≡ None =
        ap (λ (o : Option Seat). option_and_then (λ s. owed_at s (proved_at n (key / 4))) o) none in
        let end : active_end n key ≡ None =
        ap (λ (o : Option Seat). option_and_then
        (λ e. end_while_active (slice_get n.lives key) (call_under n.ends.calls e))
        (option_and_then (λ s. s.live) o)) none in
        let rank : moment_of b.ranks key ≡ None =
        subst (λ (e : Option EndOfCall). IsRankOf None e (moment_of b.ranks key)) end
        (subst (λ (i : Option CodeItem). IsRankOf i (active_end n key) (moment_of b.ranks key)) owed
        (booked.each key).rank) in
        let both = sym is ∙ rank in
        cc (both))

module _ (class : List ℕ → Class) (n : NodeState) (b : BooksState) (booked : IsBooked n b)
    (client : n.ends.client ≡ is_client n.kind) (l : Looks) (m : Mirrors class n l) where
  abbrev s : Setup
  s = setup_of class n

  abbrev all : ℕ
  all = 4 * length l.conns

  -- the least item of the channel with a key
  abbrev on : ℕ → Option Item
  on key = option_and_then (λ ch. least_by (λ i. i.rank) (channel_items s (unsilenced l) ch))
      (slice_get (all_channels l.conns) key)

  on-is : (key : ℕ) (ch : Channel) → IsChannel l key ch
      → on key ≡ least_by (λ i. i.rank) (channel_items s (unsilenced l) ch)
  on-is key ch at =
      let k : 4 * (key / 4) + key % 4 ≡ key = omega arith in
      let there : slice_get (all_channels l.conns) key ≡ Some ch =
      ap (λ (k : ℕ). slice_get (all_channels l.conns) k) (sym k)
      ∙ channel_with l.conns (key / 4) (key % 4) at.conn at.there (omega arith)
      ∙ ap (λ (c : Channel). Some c) (sym at.is) in
      ap (λ (o : Option Channel). option_and_then
      (λ ch. least_by (λ i. i.rank) (channel_items s (unsilenced l) ch)) o) there

  booked-at : (key : ℕ) → key < all → moment_of b.ranks key ≡ option_map (λ i. i.rank) (on key)
  booked-at key low =
      let ch = has_channel l key (omega (arith, low)) in
      rank_is class n l m key ch.channel ch.at client (moment_of b.ranks key) (booked.each key).rank
      ∙ ap (option_map (λ i. i.rank)) (sym (on-is key ch.channel ch.at))

  abbrev to : ℕ → Option Item
  to key = least_to s (unsilenced l) key

  next : (key : ℕ) → key < all → to (suc key) ≡ lesser_of (λ i. i.rank) (to key) (on key)
  next key low =
      let ch = has_channel l key (omega (arith, low)) in
      least_next s (unsilenced l) key ch.channel
      (record { conn = ch.at.conn; there = ch.at.there; is = ch.at.is })
      ∙ ap (λ (o : Option Item). lesser_of (λ i. i.rank) (to key) o) (sym (on-is key ch.channel ch.at))

  ended : to all ≡ least_by (λ i. i.rank) (items s (unsilenced l))
  ended = least_all s (unsilenced l)

  none-on : (o : Option Item) → None ≡ option_map (λ i. i.rank) o → o ≡ None
  none-on None is = refl
  none-on (Some i) is = absurd (cc (is))

  -- none is due where the book is empty
  pub due_none : entries_of b.ranks ≡ 0 → least_by (λ i. i.rank) (items s (unsilenced l)) ≡ None
  due_none empty =
      sym ended
      ∙ none_of_all (λ i. i.rank) to on all refl next
      (λ key low. none-on (on key) (sym (none_there b.ranks key empty) ∙ booked-at key low)) all (omega arith)

  -- what is due on the first channel of the book is
  pub due_first : (moment key : ℕ) → IsLeast b.ranks (moment, key) → (due : Option Due)
      → ((l : Looks) (ch : Channel) → Mirrors class n l → IsChannel l key ch
      → AreDueAs s l due (least_by (λ i. i.rank) (channel_items s (unsilenced l) ch)))
      → AreDueAs s l due (least_by (λ i. i.rank) (items s (unsilenced l)))
  due_first moment key first due of-key = by (on key) refl
    where
      conns : length n.table.conns ≡ length l.conns
      conns = m.conns.conns

      low : key < all
      low = (let its = rank_key n b booked key moment first.there in omega (arith, its, conns))

      has : moment_of b.ranks key ≡ option_map (λ i. i.rank) (on key)
      has = booked-at key low

      by : (o : Option Item) → on key ≡ o → AreDueAs s l due (least_by (λ i. i.rank) (items s (unsilenced l)))
      by None is = (let a = sym first.there ∙ has ∙ ap (option_map (λ i. i.rank)) is in absurd (cc (a)))
      by (Some x) is =
          (let a : Some moment ≡ Some x.rank = sym first.there ∙ has ∙ ap (option_map (λ i. i.rank)) is in
          let same : moment ≡ x.rank = cc (a) in
          let ch = has_channel l key (omega (arith, low)) in
          subst (λ (o : Option Item). AreDueAs s l due o)
          (sym (on-is key ch.channel ch.at) ∙ is
          ∙ sym (first_of_all (λ i. i.rank) to on all refl next key x low is
          (λ q y within there. (let later = (first.least q y.rank (booked-at q within
          ∙ ap (option_map (λ i. i.rank)) there)).moment in omega (arith, later, same)))
          (λ q y within there tie. (first.least q y.rank (booked-at q within
          ∙ ap (option_map (λ i. i.rank)) there)).key (same ∙ tie))
          all low (omega arith))
          ∙ ended)
          (of-key l ch.channel m ch.at))

  -- its rank is that of the least item
  pub rank_first : (moment key : ℕ) → IsLeast b.ranks (moment, key)
      → Some moment ≡ option_map (λ i. i.rank) (least_by (λ i. i.rank) (items s (unsilenced l)))
  rank_first moment key first = by (on key) refl
    where
      conns : length n.table.conns ≡ length l.conns
      conns = m.conns.conns

      low : key < all
      low = (let its = rank_key n b booked key moment first.there in omega (arith, its, conns))

      by : (o : Option Item) → on key ≡ o
          → Some moment ≡ option_map (λ i. i.rank) (least_by (λ i. i.rank) (items s (unsilenced l)))
      by None is = (let a = sym first.there ∙ booked-at key low ∙ ap (option_map (λ i. i.rank)) is in absurd (cc (a)))
      by (Some x) is =
          (let a : Some moment ≡ Some x.rank = sym first.there ∙ booked-at key low ∙ ap (option_map (λ i. i.rank)) is in
          let same : moment ≡ x.rank = cc (a) in
          a ∙ sym (ap (option_map (λ i. i.rank)) (sym ended
          ∙ first_of_all (λ i. i.rank) to on all refl next key x low is
          (λ q y within there. (let later = (first.least q y.rank (booked-at q within
          ∙ ap (option_map (λ i. i.rank)) there)).moment in omega (arith, later, same)))
          (λ q y within there tie. (first.least q y.rank (booked-at q within
          ∙ ap (option_map (λ i. i.rank)) there)).key (same ∙ tie))
          all low (omega arith))))

  -- ---- deaths

  died : (key : ℕ) (ch : Channel) → IsChannel l key ch → moment_of b.silences key ≡ death_of (latest l ch)
  died key ch at = (booked.each key).silence ∙ silence_is class n l m key ch at

  -- none would die where the book is empty
  pub death_none : entries_of b.silences ≡ 0 → None ≡ least_by (λ moment. moment) (deaths l.calls)
  death_none empty =
      first_death class n l m None
      (λ key ch k at here active.
      (let a = sym (none_there b.silences key empty) ∙ died key ch at ∙ ap death_of here
      ∙ ap (λ (t : Bool). if t then Some (k.looks.heard + SILENCE_MS) else None) active in absurd (cc (a)))) tt

  -- the first of the book is the first death
  pub death_first : (moment key : ℕ) → IsLeast b.silences (moment, key)
      → Some moment ≡ least_by (λ moment. moment) (deaths l.calls)
  death_first moment key first =
      let its = silence_key n key moment (sym (booked.each key).silence ∙ first.there) in
      let ch = has_channel l key (let same = m.conns.conns in omega (arith, its, same)) in
      first_death class n l m (Some moment)
      (λ q dh k at here active. (first.least q (k.looks.heard + SILENCE_MS)
      (died q dh at ∙ ap death_of here
      ∙ ap (λ (t : Bool). if t then Some (k.looks.heard + SILENCE_MS) else None) active)).moment)
      (subst (λ (o : Option ℕ). IfSome o (DiesAt l)) (sym (died key ch.channel ch.at) ∙ first.there)
      (death_dies l ch.channel (latest l ch.channel) refl))

  -- ---- of either book, where it has an entry

  pub ranks_first : (o : Option (ℕ × ℕ)) → (IsNone o → entries_of b.ranks ≡ 0) → IfSome o (IsLeast b.ranks)
      → option_map (λ pair. pair.0) o ≡ option_map (λ i. i.rank) (least_by (λ i. i.rank) (items s (unsilenced l)))
  ranks_first None empty least = sym (ap (option_map (λ i. i.rank)) (due_none (empty refl)))
  ranks_first (Some (moment, key)) empty least = rank_first moment key least

  pub silences_first : (o : Option (ℕ × ℕ)) → (IsNone o → entries_of b.silences ≡ 0) → IfSome o (IsLeast b.silences)
      → option_map (λ pair. pair.0) o ≡ least_by (λ moment. moment) (deaths l.calls)
  silences_first None empty least = death_none (empty refl)
  silences_first (Some (moment, key)) empty least = death_first moment key least
