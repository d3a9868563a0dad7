-- What a channel owes at once, as its seat has it, is the first of its items.
use Rattle.std.proofs.Common.{◌≡◌, ◌<◌, ◌/◌, ◌%◌, ◌&&◌, ℕ, ℤ, Bool, true, false, not, List, [], ◌∷◌, ◌++◌, length}
use Rattle.std.proofs.Common.{nat_le}
use Rattle.std.proofs.Common.{Option, Some, None, option_map, refl, ◌∙◌, ap, sym, subst, arith, if◌then◌else◌}
use Rattle.std.specs.Prelude.{is_some, unwrap_or, IsSomeAnd}
use Rattle.rx_model.specs.declared.names.CallName.{CallName}
use Rattle.rx_model.specs.Body.{Body}
use Rattle.rx_model.specs.Body as bodies
use Rattle.rx_model.specs.Names.{Channel, connection_of}
use Rattle.std.proofs.lemmas.Bool.Decides.{nat_tests}
use Rattle.rx_rules.specs.Classes.{Class}
use Rattle.rx_rules.specs.Items.{Item, busy_items, channel_items, items_of, owed_item, where_owed}
use Rattle.rx_rules.specs.Least.{least_by, lesser_by}
use Rattle.rx_rules.specs.Life.{is_live}
use Rattle.rx_rules.specs.Looks.{ConnLooks, Looks, call_named, channel_at, is_call, is_proved, latest, latest_name}
use Rattle.rx_rules.specs.Setup.{Setup}
use Rattle.rx_table.specs.declared.seat.Seat.{Seat}
use Rattle.rx_table.specs.Records.{ConnRecord, record_at, seat_at}
use Rattle.rx_node.specs.Due.{OwesAtOnce, at_once, challenge_of, owed_at, owed_by, unsilenced}
use Rattle.rx_node.specs.Mirrors.{IsChannel, Mirrors, OwesAs, channel_in}
use Rattle.rx_node.specs.Node.{NodeState, setup_of}
use Rattle.rx_node.proofs.Steps.IdleSteps.{channel_conn, place_stands}
use Rattle.rx_node.proofs.Steps.TableSteps.{get_some}
use Rattle.rx_node.specs.declared.item.Item.TheVariants as kinds

-- ---- keys

-- a key's channel
pub record HasChannel (l : Looks) (key : ℕ) : Type 0 where
  pub channel : Channel
  pub at : IsChannel l key channel

pub has_channel : (l : Looks) (key : ℕ) → key / 4 < length l.conns → HasChannel l key
has_channel l key low =
    let x = get_some l.conns (key / 4) low in
    record { channel = channel_in x.0 (key % 4); at = record { conn = x.0; there = x.1; is = refl } }

-- ---- the first item

-- an item that is due at once is the least of those behind it
pub first_least : (x : Item) (xs : List Item) → x.rank ≡ 0 → least_by (λ i. i.rank) (x ∷ xs) ≡ Some x
first_least x xs zero_ = ap (λ (y : Item). Some y) (of (least_by (λ i. i.rank) xs))
  where
    none : (n : ℕ) → nat_le 0 n ≡ true
    none n = grind (arith, nat_tests)

    of : (o : Option Item) → lesser_by (λ i. i.rank) x o ≡ x
    of None = refl
    of (Some y) =
        ap (λ (b : Bool). if b then x else y) (ap (λ (n : ℕ). nat_le n y.rank) zero_ ∙ none y.rank)

-- the items of a channel by what it owes
abbrev items_by : Channel → CallName → Body → Option ℤ → Option ℕ → Bool → Option (List ℕ) → Bool → Bool
    → List Item → List Item
items_by ch c challenge abort busy challenged response ackall living sends =
    owed_item c (option_map bodies.Abort abort)
    ++ (busy_items ch busy
    ++ ((if living then owed_item c (where_owed challenged challenge)
    ++ owed_item c (option_map bodies.Response response)
    else [])
    ++ (owed_item c (where_owed ackall bodies.AckAll) ++ sends)))

module _ (s : Setup) (l : Looks) (ch : Channel) where
  abbrev c : CallName
  c = latest_name l ch

  abbrev sends : List Item
  sends = items_of s (unsilenced l) (latest l ch)

  -- the items behind those that aren't owed
  abbrev all : List Item
  all = channel_items s (unsilenced l) ch

  abbrev class-part : Bool → Option (List ℕ) → Bool → Bool → List Item
  class-part challenge response living proved =
      if living then owed_item c (where_owed (challenge && not proved) (challenge_of s l c))
      ++ owed_item c (option_map bodies.Response response) else []

  abbrev last-part : Bool → List Item
  last-part ackall = owed_item c (where_owed ackall bodies.AckAll) ++ sends

  response-first : (bytes : List ℕ) (rest : List Item) → (channel_at l ch).owed_response ≡ Some bytes
      → all ≡ at_once c (bodies.Response bytes) ∷ rest → OwesAtOnce s l ch (Some kinds.Response)
  response-first bytes rest here is =
      record {
        first = at_once c (bodies.Response bytes);
        is = subst (λ (o : Option (List ℕ)). IsSomeAnd o
            (λ bs. at_once c (bodies.Response bytes) ≡ at_once c (bodies.Response bs)))
            (sym here) refl;
        rank = refl;
        least = ap (λ (is : List Item). least_by (λ i. i.rank) is) is
            ∙ first_least (at_once c (bodies.Response bytes)) rest refl;
      }

  ackall-first : (rest : List Item) → all ≡ at_once c bodies.AckAll ∷ rest → OwesAtOnce s l ch (Some kinds.AckAll)
  ackall-first rest is =
      record {
        first = at_once c bodies.AckAll;
        is = refl;
        rank = refl;
        least = ap (λ (is : List Item). least_by (λ i. i.rank) is) is ∙ first_least (at_once c bodies.AckAll) rest refl;
      }

  -- by what it owes
  at-least : (abort : Option ℤ) (busy : Option ℕ) (challenge : Bool) (response : Option (List ℕ))
      (ackall living proved : Bool)
      → (channel_at l ch).owed_response ≡ response
      → all ≡ items_by ch c (challenge_of s l c) abort busy (challenge && not proved) response ackall living sends
      → OwesAtOnce s l ch (owed_by abort busy challenge (is_some response) ackall living proved)
  at-least (Some code) busy challenge response ackall living proved here is =
      record {
        first = at_once c (bodies.Abort code);
        is = refl;
        rank = refl;
        least = ap (λ (is : List Item). least_by (λ i. i.rank) is) is ∙ first_least (at_once c (bodies.Abort code))
            (busy_items ch busy ++ (class-part challenge response living proved ++ last-part ackall)) refl;
      }
  at-least None (Some number) challenge response ackall living proved here is =
      record {
        first = at_once (call_named ch number) bodies.Busy;
        is = refl;
        rank = refl;
        least = ap (λ (is : List Item). least_by (λ i. i.rank) is) is
            ∙ first_least (at_once (call_named ch number) bodies.Busy)
            (class-part challenge response living proved ++ last-part ackall) refl;
      }
  at-least None None true response ackall true false here is =
      record {
        first = at_once c (challenge_of s l c);
        is = refl;
        rank = refl;
        least = ap (λ (is : List Item). least_by (λ i. i.rank) is) is ∙ first_least (at_once c (challenge_of s l c))
            (owed_item c (option_map bodies.Response response) ++ last-part ackall) refl;
      }
  at-least None None true (Some bytes) ackall true true here is = response-first bytes (last-part ackall) here is
  at-least None None false (Some bytes) ackall true proved here is = response-first bytes (last-part ackall) here is
  at-least None None true None true true true here is = ackall-first sends is
  at-least None None false None true true proved here is = ackall-first sends is
  at-least None None true response true false proved here is = ackall-first sends is
  at-least None None false response true false proved here is = ackall-first sends is
  at-least None None true None false true true here is = is
  at-least None None false None false true proved here is = is
  at-least None None true response false false proved here is = is
  at-least None None false response false false proved here is = is

  -- as its seat says what it owes, whether its call lives and whether its client is proved
  pub owes_at_once : (seat : Seat) (proved : Bool) → OwesAs seat (channel_at l ch)
      → is_some seat.live ≡ is_call (λ k. is_live k.life) (latest l ch) → proved ≡ is_proved l (connection_of c)
      → OwesAtOnce s l ch (owed_at seat proved)
  owes_at_once seat proved owes living proves =
      subst (λ (b : Bool). OwesAtOnce s l ch
      (owed_by seat.owed_abort seat.owed_busy seat.owed_challenge b seat.owed_ackall (is_some seat.live) proved))
      (mapped seat.owed_response (λ bytes. bytes.items))
      (at-least seat.owed_abort seat.owed_busy seat.owed_challenge
      (option_map (λ bytes. bytes.items) seat.owed_response)
      seat.owed_ackall (is_some seat.live) proved (sym owes.response)
      (λ i. items_by ch c (challenge_of s l c) (sym owes.abort i) (sym owes.busy i)
      (sym owes.challenge i && not (sym proves i)) (sym owes.response i) (sym owes.ackall i) (sym living i) sends))
    where
      mapped : {A : Type 0} (o : Option A) (f : A → List ℕ) → is_some (option_map f o) ≡ is_some o
      mapped None f = refl
      mapped (Some bytes) f = refl

-- as a node has it
pub owed_first : (class : List ℕ → Class) (n : NodeState) (l : Looks) → Mirrors class n l → (key : ℕ) (ch : Channel)
    → IsChannel l key ch → (seat : Seat) (proved : Bool) → seat_at n.table key ≡ Some seat
    → IsSomeAnd (record_at n.table (key / 4)) (λ r. proved ≡ r.proved)
    → OwesAtOnce (setup_of class n) l ch (owed_at seat proved)
owed_first class n l m key ch at seat proved there proves =
    let was = m.channels key ch seat at there in
    let place = place_stands class n l m (key / 4) at.conn at.there in
    let is : proved ≡ place.rec.proved =
    subst (λ (o : Option ConnRecord). IsSomeAnd o (λ r. proved ≡ r.proved)) place.rec_there proves in
    owes_at_once (setup_of class n) l ch seat proved was.owes was.call.live
    (is ∙ place.stands.proved
    ∙ sym (ap (λ (o : Option ConnLooks). unwrap_or (option_map (λ r. r.proved) o) false)
    (channel_conn l key ch m.orderly.conns.differ at)))
