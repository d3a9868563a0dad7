-- A piece is given.
use Rattle.std.proofs.Common.{◌==◌, ◌≡◌, inl, inr, ◌<◌, ◌≤◌, ◌+◌, ◌-◌}
use Rattle.std.proofs.Common.{max, min, is_some, map, Bool, true, false, ℕ, suc, zero, List, [], ◌∷◌, length, get_or}
use Rattle.std.proofs.Common.{set}
use Rattle.std.proofs.Common.{take, Option, Some, None, refl, sym, ap, ◌∙◌, arith}
use Rattle.std.proofs.lemmas.Bool.Decides.{nat_tests}
use Rattle.std.proofs.lemmas.Bool.{cases_eq}
use Rattle.std.proofs.lemmas.List.{length-map, map-set, get_or-set_same, get_or-set_other, length-set}
use Rattle.rx_rules.specs.Sent.{Sent, Giving, opened, pieces_by, counting_by, pieces_of, counting_of, payload_at}
use Rattle.rx_rules.specs.Sent.{piece_at}
use Rattle.rx_rules.specs.Sent.{LAST_ORDER, orders_of}
use Rattle.rx_rules.specs.Sent.{given_of, last_giving, is_acked, in_flight, after_write, after_giving}
use Rattle.rx_rules.specs.Sent as rules
use Rattle.rx_pool.specs.Pool.{Slots, bytes_at}
use Rattle.rx_sendwin.specs.declared.piece.HeldPiece.{HeldPiece}
use Rattle.rx_sendwin.specs.declared.piece.LastGiving.{LastGiving}
use Rattle.rx_sendwin.specs.Marks.{is_acked_by, flight_by}
use Rattle.rx_sendwin.specs.Pieces.{seen_at, giving_in, giving_at, as_giving, IsTimed}
use Rattle.rx_sendwin.specs.Window.{SendWindow, StandsSent, IsTied}
use Rattle.rx_sendwin.proofs.PieceLaws.{sized_at, sized_set, timed_set, last_set_same}

-- ---- a piece is given

pub seen_set : (pool : Slots) (hs : List HeldPiece) (i : ℕ) (h g : HeldPiece) → h ≡ get_or hs i h → i < length hs →
    g.slot ≡ h.slot → g.size ≡ h.size → map (seen_at pool) (set hs i g) ≡ map (seen_at pool) hs
seen_set pool [] i h g e lt slot size = absurd (omega (arith, lt))
seen_set pool (k ∷ hs) zero h g e lt slot size =
    let sizes : g.size ≡ k.size = size ∙ ap (λ (x : HeldPiece). x.size) e in
    let slots : g.slot ≡ k.slot = slot ∙ ap (λ (x : HeldPiece). x.slot) e in
    λ j. take (sizes j) (bytes_at pool (slots j)) ∷ map (seen_at pool) hs
seen_set pool (k ∷ hs) (suc i) h g e lt slot size =
    ap (λ xs. seen_at pool k ∷ xs) (seen_set pool hs i h g e (omega (arith, lt)) slot size)

pub giving_read : (hs : List HeldPiece) (i : ℕ) (h : HeldPiece) → h ≡ get_or hs i h → i < length hs →
    giving_in hs i ≡ as_giving h.given
giving_read [] i h e lt = absurd (omega (arith, lt))
giving_read (k ∷ hs) zero h e lt = ap (λ (x : HeldPiece). as_giving x.given) (sym e)
giving_read (k ∷ hs) (suc i) h e lt = giving_read hs i h e (omega (arith, lt))

-- a giving is there as the rules have it where it is there
pub some_giving : (o : Option LastGiving) → is_some (as_giving o) ≡ is_some o
some_giving None = refl
some_giving (Some g) = refl

-- a piece that was given now
abbrev pub given_now : HeldPiece → ℕ → Bool → ℕ → HeldPiece
given_now h now again order = record h { given = Some (record { moment = now; again = again; order = order }) }

-- the last giving behind one more
own_giving : (gs : List Giving) (seq now : ℕ) (before : Option rules.LastGiving) → last_giving gs seq ≡ before →
    last_giving (record { seq = seq; moment = now } ∷ gs) seq
    ≡ Some (record { moment = now; again = is_some before; order = suc (orders_of gs) })
own_giving gs seq now before is =
    let test : (seq == seq) ≡ true = grind (arith, nat_tests) in
    rw test (ap (λ o. Some (record { moment = now; again = is_some o; order = suc (orders_of gs) })) is)

other_giving : (gs : List Giving) (seq now k : ℕ) → (seq ≡ k → ⊥) →
    last_giving (record { seq = seq; moment = now } ∷ gs) k ≡ last_giving gs k
other_giving gs seq now k apart =
    let test : (seq == k) ≡ false = grind (arith, nat_tests, apart) in
    rw test refl

-- a count that stands still at its end
min_again : (n most : ℕ) → min (suc (min n most)) most ≡ min (suc n) most
min_again n most = omega arith

module _ (pool : Slots) (w : SendWindow) (s : Sent) (seq now place most : ℕ) (again : Bool) (h : HeldPiece) where
  pub sent_stands : StandsSent pool w s → w.acked < seq → place ≡ seq - w.acked - 1 → place < length w.pieces
      → h ≡ get_or w.pieces place h → again ≡ is_some h.given → most ≡ max seq w.given → (orders : ℕ)
      → orders ≡ min (w.orders + 1) LAST_ORDER
      → StandsSent pool (record w {
        given = most;
        pieces = set w.pieces place (given_now h now again (w.orders + 1));
        orders = orders;
      }) (after_giving now seq s)
  sent_stands st above at within read before is orders count =
      let g = given_now h now again (w.orders + 1) in
      let next : w.orders + 1 ≡ suc (orders_of s.givings) = ap (λ n. n + 1) st.orders ∙ omega arith in
      let all = map giving_at w.pieces in
      let here : suc (w.acked + place) ≡ seq = omega (arith, above, at) in
      let old : last_giving s.givings seq ≡ as_giving h.given = (
      sym (sym (giving_read w.pieces place h read within) ∙ st.givings place ∙ ap (last_giving s.givings) here)) in
      let len : length all ≡ length w.pieces = length-map w.pieces giving_at in
      let more : List Giving = record { seq = seq; moment = now } ∷ s.givings in
      let now_given : giving_at g ≡ last_giving more seq = (
      (λ i. Some (record { moment = now; again = (before ∙ sym (some_giving h.given)) i; order = next i }))
      ∙ sym (own_giving s.givings seq now (as_giving h.given) old)) in
      record {
        total = st.total;
        shut = st.shut;
        acked = st.acked;
        given = is ∙ ap (max seq) st.given;
        soft = st.soft;
        peer = st.peer;
        pieces = λ i. ap (λ ps. get_or ps i []) (seen_set pool w.pieces place h g read within refl refl) ∙ st.pieces i;
        givings = λ i. ap (λ xs. get_or xs i None) (map-set giving_at w.pieces place g)
            ∙ (elim (cases_eq place i)
            as (λ _. get_or (set all place (giving_at g)) i None ≡ last_giving more (suc (w.acked + i))) [
              | inl e ↦ (
                  let same : seq ≡ suc (w.acked + i) = omega (arith, e, here) in
                  ap (λ j. get_or (set all place (giving_at g)) j None) (sym e)
                  ∙ get_or-set_same all place (giving_at g) None (omega (arith, within, len))
                  ∙ now_given ∙ ap (last_giving more) same)
              | inr apart ↦ (
                  get_or-set_other all place i (giving_at g) None (λ e. apart (sym e)) ∙ st.givings i
                  ∙ sym (other_giving s.givings seq now (suc (w.acked + i)) (λ e. apart (omega (arith, e, here)))))
            ]);
        orders = count ∙ ap (λ n. min n LAST_ORDER) next ∙ min_again (length s.givings) LAST_ORDER;
        since = st.since;
      }

module _ (w : SendWindow) (low flight place most flight2 orders : ℕ) (h g : HeldPiece) where
  pub sent_tied : IsTied w low flight → h ≡ get_or w.pieces place h → place < length w.pieces → g.size ≡ h.size
      → IsTimed g.given → w.given ≤ most → most ≤ counting_by w.total w.shut
      → flight2 ≡ flight_by (is_acked_by w.acked w.soft) most → orders ≡ min (w.orders + 1) LAST_ORDER
      → IsTied (record w { given = most; pieces = set w.pieces place g; orders = orders }) low flight2
  sent_tied tied read within same timed more counts is count =
      let size : length (set w.pieces place g) ≡ length w.pieces = length-set w.pieces place g in
      let held = tied.held in
      let few = tied.within in
      let least = tied.acked_most in
      let upto = tied.orders in
      let since = tied.since in
      let small = sized_at w.pieces place h read within tied.sized in
      record {
        least = tied.least;
        most = tied.most;
        held = omega (arith, held, size);
        within = omega (arith, few, size);
        filling = λ lt. (
            let before = tied.filling (omega (arith, lt, size)) in
            let last = last_set_same w.pieces place h g read within same in
            omega (arith, before, last, size));
        fits = tied.fits;
        given_most = counts;
        acked_most = omega (arith, least, more);
        quiet = λ i past. tied.quiet i (omega (arith, past, more));
        lowest = tied.lowest;
        in_flight = is;
        sized = sized_set w.pieces place g (omega (arith, same, small)) tied.sized;
        timed = timed_set w.pieces place g timed tied.timed;
        marks = tied.marks;
        peer = tied.peer;
        orders = omega (arith, count);
        since = omega (arith, count, upto, since);
      }
