-- What is known of an end that says a stream: which piece it gives next, and that none is due again.
use Rattle.std.proofs.Common.{◌≡◌, ◌<◌, ◌≤◌, ◌+◌, ◌-◌, ◌*◌, ◌/◌, ◌==◌, ◌&&◌, ◌++◌, ◌⊎◌, not, ℕ, zero, suc, max, Bool}
use Rattle.std.proofs.Common.{true, false, cond, List, [], ◌∷◌, refl, ap, sym, subst, ◌∙◌, inl, inr, arith, Option}
use Rattle.std.proofs.Common.{Some, None}
use Rattle.std.proofs.Common.{length-drop, if◌then◌else◌, length, nat_le, nat_lt, option_map, take, drop}
use Rattle.std.proofs.Common.{is_some, append-nil}
use Rattle.std.proofs.lemmas.Bool.{eq-eqb, ne_eqb, cases_eq, cases_lt, lt-ltb, le-leb, lt-leb, or_left}
use Rattle.std.proofs.lemmas.Bool.{and_parts, ltb-true, leb-true}
use Rattle.std.proofs.lemmas.List.{drop-append-le, length-append, take-append-le}
use Rattle.std.specs.Prelude.{IfSome, IsSomeAnd}
use Rattle.rx_rules.specs.CallItems.{CallItem, Sending, Piece, ack_items, again_items, can_give}
use Rattle.rx_rules.specs.CallItems.{ping_items}
use Rattle.rx_rules.specs.CallLooks.{CallLooks, after_piece}
use Rattle.rx_rules.specs.Least.{least_by, lesser_by}
use Rattle.rx_rules.specs.Owing.{Owed}
use Rattle.rx_rules.specs.Received.{reach}
use Rattle.rx_rules.specs.Sent.{Giving, LastGiving, after_giving, counting_of, given_of, greatest_given, in_flight}
use Rattle.rx_rules.specs.Sent.{is_acked}
use Rattle.rx_rules.specs.Sent.{last_giving, lowest_of, opened, orders_of, payload_at, piece_at}
use Rattle.rx_between.proofs.Counting.{count_none, reach_least}
use Rattle.rx_rounds.proofs.Flow.{total, ripe}
use Rattle.rx_rounds.proofs.Keeper.{piece}
use Rattle.rx_rounds.proofs.One.OneWay.{Sends}
use Rattle.rx_rounds.proofs.Pair.{Place, next_of}

-- ---- givings

-- a piece beyond those that were given has no giving
pub never_given : (gs : List Giving) (k : ℕ) → greatest_given gs < k → last_giving gs k ≡ None
never_given [] k past = refl
never_given (g ∷ gs) k past =
    rw (ne_eqb g.seq k (λ (e : g.seq ≡ k). omega arith)) (never_given gs k (omega arith))

-- ---- what is due

pub ripe_append : (now : ℕ) (is js : List CallItem) → ripe now (is ++ js) ≡ ripe now is ++ ripe now js
ripe_append now [] js = refl
ripe_append now (i ∷ is) js =
    elim (nat_le i.rank now) as (λ b. cond b (i ∷ ripe now (is ++ js)) (ripe now (is ++ js))
    ≡ cond b (i ∷ ripe now is) (ripe now is) ++ ripe now js) [
      | true ↦ ap (λ (ks : List CallItem). i ∷ ks) (ripe_append now is js)
      | false ↦ ripe_append now is js
    ]

-- what is due at once and stands first is given first
pub first_due : (now : ℕ) (x : Sending) (rest : List CallItem)
    → option_map (λ (i : CallItem). i.sending)
    (least_by (λ (i : CallItem). i.rank) (ripe now (record { rank = 0; sending = x } ∷ rest))) ≡ Some x
first_due now x rest =
    rw (le-leb 0 now (omega arith)) (of (least_by (λ (i : CallItem). i.rank) (ripe now rest)))
  where
    of : (o : Option CallItem) → option_map (λ (i : CallItem). i.sending)
        (Some (lesser_by (λ (i : CallItem). i.rank) (record { rank = 0; sending = x }) o)) ≡ Some x
    of None = refl
    of (Some j) = rw (le-leb 0 j.rank (omega arith)) refl

-- what an end tells that has no piece to give
abbrev pub tells : Bool → ℕ → ℕ → Option Owed → Option Sending
tells client now spoke owed =
    option_map (λ (i : CallItem). i.sending)
    (least_by (λ (i : CallItem). i.rank) (ripe now (ack_items owed ++ ping_items client spoke)))

-- ---- what is known of a stream

module _ (whole : List ℕ) (since a n : ℕ) (k : CallLooks) (h : Sends whole since a n k) where
  acked_low : (j : ℕ) → j ≤ a → is_acked k.sent j ≡ true
  acked_low j low = or_left (nat_le j k.sent.acked) (k.sent.soft j) (le-leb j k.sent.acked (omega (arith, h.acked)))

  -- where all that was given is hard acknowledged nothing is in flight
  flight : a ≡ n → in_flight k.sent ≡ 0
  flight all =
      rw h.given (count_none (λ j. not (is_acked k.sent j)) n (λ j low high. ap not (acked_low j (omega arith))))

  -- the lowest piece that isn't acknowledged lies behind those that are hard acknowledged
  lowest_low : a < lowest_of k.sent
  lowest_low =
      let low : a ≤ reach (is_acked k.sent) n = reach_least (is_acked k.sent) n a h.known
      (λ j from to. acked_low j to) in
      rw h.given (omega arith)

  -- what is due of it again is due 350 ms behind the moment since which pieces were given, or later
  pub again_late : IfSome (last_giving k.sent.givings (lowest_of k.sent)) (λ g. since + 350 ≤ g.moment + k.rtt.rto)
  again_late = of (lowest_of k.sent) lowest_low (cases_lt n (lowest_of k.sent))
    where
      of : (j : ℕ) → a < j → (n < j) ⊎ (j ≤ n)
          → IfSome (last_giving k.sent.givings j) (λ g. since + 350 ≤ g.moment + k.rtt.rto)
      of j low (inl past) =
          subst (λ (o : Option LastGiving). IfSome o (λ g. since + 350 ≤ g.moment + k.rtt.rto))
          (sym (never_given k.sent.givings j (omega (arith, h.given)))) tt
      of j low (inr given) = by (last_giving k.sent.givings j) (h.recent j low given)
        where
          by : (o : Option LastGiving) → IsSomeAnd o (λ g. since ≤ g.moment)
              → IfSome o (λ g. since + 350 ≤ g.moment + k.rtt.rto)
          by None some = tt
          by (Some g) some = (let slow : 350 ≤ k.rtt.rto = h.rates.slow in omega arith)

  -- where all that was given is hard acknowledged it was never given
  pub again_never : a ≡ n → last_giving k.sent.givings (lowest_of k.sent) ≡ None
  again_never all =
      let low : a < lowest_of k.sent = lowest_low in never_given k.sent.givings (lowest_of k.sent)
      (omega (arith, h.given))

  -- pieces that count are pieces of the whole
  pub counts_within : counting_of k.sent ≤ total whole
  counts_within = by k.sent.shut refl
    where
      long : length whole ≡ length k.sent.said + length h.rest
      long = ap (λ (xs : List ℕ). length xs) h.said ∙ length-append k.sent.said h.rest

      by : (b : Bool) → k.sent.shut ≡ b → counting_of k.sent ≤ total whole
      by true is = rw is (omega (arith, long))
      by false is = rw is (omega (arith, long))

  -- what holds since a moment holds since one before it
  pub sends_sooner : (s : ℕ) → (a < n → s ≤ since) → Sends whole s a n k
  sends_sooner s early =
      record {
        acked = h.acked;
        given = h.given;
        marked = h.marked;
        peer = h.peer;
        known = h.known;
        near = h.near;
        counted = h.counted;
        rest = h.rest;
        said = h.said;
        shut = h.shut;
        held = h.held;
        rates = h.rates;
        recent = λ j low high. sooner (let less : a < n = omega arith in less) (last_giving k.sent.givings j)
            (h.recent j low high);
      }
    where
      sooner : a < n → (o : Option LastGiving) → IsSomeAnd o (λ g. since ≤ g.moment) → IsSomeAnd o (λ g. s ≤ g.moment)
      sooner less None some = absurd some
      sooner less (Some g) some = let raised : s ≤ since = early less in omega arith

  -- the piece that is given next is that of the whole stream
  pub piece_same : (j : ℕ) → 1 ≤ j → j ≤ counting_of k.sent → piece_at k.sent j ≡ piece whole j
  piece_same j low counts = by k.sent.shut refl
    where
      by : (b : Bool) → k.sent.shut ≡ b → piece_at k.sent j ≡ piece whole j
      by true is =
          let none : h.rest ≡ [] = h.shut is in
          let same : k.sent.said ≡ whole = sym (h.said ∙ ap (λ (r : List ℕ). k.sent.said ++ r) none
          ∙ append-nil k.sent.said) in
          rw (is, same) refl
      by false is =
          let some : j ≤ (length k.sent.said - 1) / 1412 = subst (λ (b : Bool). j ≤ (if b then max 1
          (opened (length k.sent.said)) else (length k.sent.said - 1) / 1412)) is counts in
          let long : length whole ≡ length k.sent.said + length h.rest = ap (λ (xs : List ℕ). length xs) h.said
          ∙ length-append k.sent.said h.rest in
          let apart : (j == total whole) ≡ false = ne_eqb j (total whole) (λ (e : j ≡ total whole). omega arith) in
          rw (is, apart) (ap (λ (xs : List ℕ). record { payload = xs; last = false }) (payload j low some))
        where
          payload : (i : ℕ) → 1 ≤ i → i ≤ (length k.sent.said - 1) / 1412 → payload_at k.sent.said i
              ≡ payload_at whole i
          payload zero least most = absurd (omega arith)
          payload (suc i) least most =
              let inside : 1412 * i ≤ length k.sent.said = omega arith in
              let cut : length (drop (1412 * i) k.sent.said) ≡ length k.sent.said - 1412 * i = length-drop (1412 * i)
              k.sent.said in
              sym (ap (λ (xs : List ℕ). take 1412 (drop (1412 * i) xs)) h.said
              ∙ ap (take 1412) (drop-append-le (1412 * i) k.sent.said h.rest inside)
              ∙ take-append-le 1412 (drop (1412 * i) k.sent.said) h.rest (omega arith))

  -- ---- what it gives

  pub piece_is : (now : ℕ) → after_piece now (suc n) k
      ≡ record k { sent = after_giving now (suc n) k.sent; spoke = now }
  piece_is now =
      rw (lt-leb (suc n) (given_of k.sent) (omega (arith, h.given)), h.rates.steady) refl

  -- behind the next piece
  pub gives_piece : (now s : ℕ) → s ≤ now → (a < n → s ≤ since) → suc n ≤ a + 32 → suc n ≤ counting_of k.sent
      → Sends whole s a (suc n) (record k { sent = after_giving now (suc n) k.sent; spoke = now })
  gives_piece now s late early near counts =
      record {
        acked = h.acked;
        given = omega (arith, h.given);
        marked = λ j past. h.marked j (omega arith);
        peer = h.peer;
        known = omega (arith, h.known);
        near = near;
        counted = counts;
        rest = h.rest;
        said = h.said;
        shut = h.shut;
        held = h.held;
        rates = record {
          wide = h.rates.wide;
          most = h.rates.most;
          steady = h.rates.steady;
          even = h.rates.even;
          slow = h.rates.slow;
        };
        recent = λ j low high. of j low high;
      }
    where
      of : (j : ℕ) → a < j → j ≤ suc n
          → IsSomeAnd (last_giving (record { seq = suc n; moment = now } ∷ k.sent.givings) j) (λ g. s ≤ g.moment)
      of j low high =
          elim (cases_eq (suc n) j) as (λ c. IsSomeAnd
          (last_giving (record { seq = suc n; moment = now } ∷ k.sent.givings) j) (λ g. s ≤ g.moment)) [
            | inl same ↦ subst (λ (b : Bool). IsSomeAnd (if b then Some (record {
              moment = now;
              again = is_some
                  (last_giving k.sent.givings j);
              order = suc (orders_of k.sent.givings);
            }) else last_giving
                k.sent.givings j) (λ g. s ≤ g.moment)) (sym (eq-eqb (suc n) j same)) late
            | inr apart ↦ subst (λ (b : Bool). IsSomeAnd (if b then Some (record {
              moment = now;
              again = is_some
                  (last_giving k.sent.givings j);
              order = suc (orders_of k.sent.givings);
            }) else last_giving
                k.sent.givings j) (λ g. s ≤ g.moment)) (sym (ne_eqb (suc n) j apart))
                (let less : a < n = omega arith in older less (last_giving k.sent.givings j)
                (h.recent j low (omega arith)))
          ]
        where
          older : a < n → (o : Option LastGiving) → IsSomeAnd o (λ g. since ≤ g.moment)
              → IsSomeAnd o (λ g. s ≤ g.moment)
          older less None some = absurd some
          older less (Some g) some = let raised : s ≤ since = early less in omega arith

  -- the first piece that counts and that both windows let go is due at once
  pub next_more : (p : Place) → can_give k.cwnd k.sent ≡ true → next_of p k ≡ Some (Piece (suc n) false)
  next_more p may =
      rw h.rates.steady (rw may (first_due p.now (Piece (suc (given_of k.sent)) false)
      (again_items k.rtt.rto (lowest_of k.sent) (last_giving k.sent.givings (lowest_of k.sent))
      ++ (ack_items k.owed_ack ++ ping_items p.client k.spoke))))
      ∙ ap (λ (j : ℕ). Some (Piece (suc j) false)) h.given

  -- nothing is due again
  pub again_none : (now : ℕ) → (a < n → now ≤ since + 100)
      → ripe now (again_items k.rtt.rto (lowest_of k.sent)
      (last_giving k.sent.givings (lowest_of k.sent))) ≡ []
  again_none now early =
      elim (cases_lt a n) as (λ c. ripe now
      (again_items k.rtt.rto (lowest_of k.sent) (last_giving k.sent.givings (lowest_of k.sent))) ≡ []) [
        | inl less ↦ of (lowest_of k.sent) (last_giving k.sent.givings (lowest_of k.sent)) again_late (early less)
        | inr all ↦
            ap (λ (o : Option LastGiving). ripe now (again_items k.rtt.rto (lowest_of k.sent) o))
            (again_never (let within : a ≤ n = h.known in omega arith))
      ]
    where
      of : (j : ℕ) (o : Option LastGiving) → IfSome o (λ g. since + 350 ≤ g.moment + k.rtt.rto) → now ≤ since + 100
          → ripe now (again_items k.rtt.rto j o) ≡ []
      of j None late soon = refl
      of j (Some g) late soon = rw (lt-leb (g.moment + k.rtt.rto) now (omega arith)) refl

  -- where none may go, what it tells
  pub next_rest : (p : Place) → can_give k.cwnd k.sent ≡ false → (a < n → p.now ≤ since + 100)
      → next_of p k ≡ tells p.client p.now k.spoke k.owed_ack
  next_rest p may early =
      let is : List CallItem = again_items k.rtt.rto (lowest_of k.sent)
      (last_giving k.sent.givings (lowest_of k.sent)) in
      let js : List CallItem = ack_items k.owed_ack ++ ping_items p.client k.spoke in
      let quiet : ripe p.now (is ++ js) ≡ ripe p.now js =
      ripe_append p.now is js ∙ ap (λ (xs : List CallItem). xs ++ ripe p.now js) (again_none p.now early) in
      rw h.rates.steady (rw may (ap (λ (xs : List CallItem). option_map (λ (i : CallItem). i.sending)
      (least_by (λ (i : CallItem). i.rank) xs)) quiet))

  -- a piece that may go counts, and both windows let it
  pub may_go : can_give k.cwnd k.sent ≡ true → (suc n ≤ counting_of k.sent) × (suc n ≤ a + 32)
  may_go may =
      let one = and_parts (nat_lt (given_of k.sent) (counting_of k.sent)) (nat_lt (in_flight k.sent) k.cwnd.window
      && nat_le (suc (given_of k.sent)) (k.sent.acked + k.sent.peer_window)) may in
      let two = and_parts (nat_lt (in_flight k.sent) k.cwnd.window)
      (nat_le (suc (given_of k.sent)) (k.sent.acked + k.sent.peer_window)) one.1 in
      let counts : given_of k.sent < counting_of k.sent = ltb-true (given_of k.sent) (counting_of k.sent) one.0 in
      let let_ : suc (given_of k.sent) ≤ k.sent.acked + k.sent.peer_window = leb-true (suc (given_of k.sent))
      (k.sent.acked + k.sent.peer_window) two.1 in (
        subst (λ (i : ℕ). suc i ≤ counting_of k.sent) h.given counts,
        omega (arith, h.given, h.acked, h.peer),
      )

  -- with nothing in flight the next one that counts may go
  pub must_go : a ≡ n → n < counting_of k.sent → can_give k.cwnd k.sent ≡ true
  must_go all some =
      let wide : 1 ≤ k.cwnd.window = h.rates.wide in
      let fly : in_flight k.sent ≡ 0 = flight all in
      rw fly (rw (
        lt-ltb (given_of k.sent) (counting_of k.sent) (omega (arith, h.given)),
        lt-ltb 0 k.cwnd.window wide,
        le-leb (suc (given_of k.sent)) (k.sent.acked + k.sent.peer_window) (omega (arith, h.given, h.acked, h.peer)),
      ) refl)
