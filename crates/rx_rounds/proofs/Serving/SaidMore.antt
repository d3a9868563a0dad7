-- An end that said more of its stream: it sends as before, and where all that it gave is acknowledged a further piece
-- counts.
use Rattle.std.proofs.Common.{◌≡◌, ◌<◌, ◌≤◌, ◌+◌, ◌-◌, ◌*◌, ◌++◌, ◌⊎◌, ℕ, suc, zero, Bool, true, false}
use Rattle.std.proofs.Common.{List, [], ◌∷◌, refl, ap, sym, subst, ◌∙◌, inl, inr, length, arith, append-nil}
use Rattle.std.proofs.Common.{is_some}
use Rattle.std.specs.Prelude.{IsSomeAnd}
use Rattle.std.proofs.lemmas.Bool.{le-ltb}
use Rattle.std.proofs.lemmas.List.{length-append}
use Rattle.rx_rules.specs.CallLooks.{CallLooks}
use Rattle.rx_rules.specs.Rates.{Cwnd, Rtt}
use Rattle.rx_rules.specs.Received.{Packet, count_above, greatest, marks_from, marks_of, packet_at, used_of}
use Rattle.rx_rules.specs.Sent.{Sent, counting_by, counting_of, given_of, held_pieces, last_giving, pieces_by}
use Rattle.rx_rounds.proofs.Flow.{total}
use Rattle.rx_rounds.proofs.One.OneWay.{IsSteady, Sends}

-- ---- where no packet is marked none is kept that isn't done with

none_above : (used : ℕ) (ps : List Packet) → greatest ps ≤ used → count_above used ps ≡ 0
none_above used [] low = refl
none_above used (p ∷ ps) low =
    rw (le-ltb used p.seq (omega arith)) (none_above used ps (omega arith))

no_marks : (kept : List Packet) (used n : ℕ) → marks_from kept used n ≡ [] → n ≡ 0
no_marks kept used zero none = refl
no_marks kept used (suc n) none =
    absurd (let long : length (marks_from kept used n) + 1 ≡ 0 =
    sym (length-append (marks_from kept used n) (is_some (packet_at kept (used + suc n)) ∷ []))
    ∙ ap (λ (bs : List Bool). length bs) none in omega arith)

pub few_kept : (k : CallLooks) → marks_of k.received ≡ []
    → count_above (used_of k.received) k.received.kept ≤ 0
few_kept k none =
    let low : greatest k.received.kept - used_of k.received ≡ 0 =
    no_marks k.received.kept (used_of k.received) (greatest k.received.kept - used_of k.received) none in
    omega (arith, none_above (used_of k.received) k.received.kept (omega arith))

-- ---- more is said

-- these bytes behind what was said; and the stream is shut or isn't
abbrev pub sent_more : List ℕ → Bool → Sent → Sent
sent_more more shut s = record s { said = s.said ++ more; shut = shut }

abbrev pub said_more : List ℕ → Bool → CallLooks → CallLooks
said_more more shut k = record k { sent = sent_more more shut k.sent }

-- what doesn't change the rates
pub steady : (k j : CallLooks) → j.rtt ≡ k.rtt → j.cwnd ≡ k.cwnd → IsSteady k → IsSteady j
steady k j rtt cwnd h =
    record {
      wide = subst (λ (c : Cwnd). 1 ≤ c.window) (sym cwnd) h.wide;
      most = ap (λ (c : Cwnd). c.most) cwnd ∙ h.most;
      steady = ap (λ (c : Cwnd). c.prompt) cwnd ∙ h.steady;
      even = ap (λ (r : Rtt). r.prompt) rtt ∙ h.even;
      slow = subst (λ (r : Rtt). 350 ≤ r.rto) (sym rtt) h.slow;
    }

-- what doesn't change what is sent
pub sends_same : (whole : List ℕ) (since a n : ℕ) (k j : CallLooks) → j.sent ≡ k.sent → j.rtt ≡ k.rtt → j.cwnd ≡ k.cwnd
    → Sends whole since a n k → Sends whole since a n j
sends_same whole since a n k j sent rtt cwnd h =
    record {
      acked = ap (λ (s : Sent). s.acked) sent ∙ h.acked;
      given = ap (λ (s : Sent). given_of s) sent ∙ h.given;
      marked = λ i past. ap (λ (s : Sent). s.soft i) sent ∙ h.marked i past;
      peer = ap (λ (s : Sent). s.peer_window) sent ∙ h.peer;
      known = h.known;
      near = h.near;
      counted = subst (λ (s : Sent). n ≤ counting_of s) (sym sent) h.counted;
      rest = h.rest;
      said = h.said ∙ ap (λ (s : Sent). s.said ++ h.rest) (sym sent);
      shut = λ is. h.shut (sym (ap (λ (s : Sent). s.shut) sent) ∙ is);
      held = subst (λ (s : Sent). held_pieces s ≤ 32) (sym sent) h.held;
      rates = steady k j rtt cwnd h.rates;
      recent = subst (λ (s : Sent). (i : ℕ) → a < i → i ≤ n
          → IsSomeAnd (last_giving s.givings i) (λ g. since ≤ g.moment))
          (sym sent) h.recent;
    }

-- more bytes count no less
counts_on : (n m : ℕ) (shut : Bool) → counting_by n false ≤ counting_by (n + m) shut
counts_on n m true = omega arith
counts_on n m false = omega arith

module _ (whole : List ℕ) (since a n : ℕ) (k : CallLooks) (h : Sends whole since a n k) (going : k.sent.shut ≡ false)
    (more left : List ℕ) (shut : Bool) (split : whole ≡ (k.sent.said ++ more) ++ left)
    (ends : shut ≡ true → left ≡ []) (within : length (k.sent.said ++ more) ≤ 1412 * (a + 32)) where
  pub sends_said : Sends whole since a n (said_more more shut k)
  sends_said =
      let long : length (k.sent.said ++ more) ≡ length k.sent.said + length more = length-append k.sent.said more in
      let counts : n ≤ counting_by (length k.sent.said) false =
      subst (λ (b : Bool). n ≤ counting_by (length k.sent.said) b) going h.counted in
      let on : counting_by (length k.sent.said) false ≤ counting_by (length (k.sent.said ++ more)) shut =
      subst (λ (j : ℕ). counting_by (length k.sent.said) false ≤ counting_by j shut) (sym long)
      (counts_on (length k.sent.said) (length more) shut) in
      record {
        acked = h.acked;
        given = h.given;
        marked = h.marked;
        peer = h.peer;
        known = h.known;
        near = h.near;
        counted = omega arith;
        rest = left;
        said = split;
        shut = ends;
        held = holds shut;
        rates = steady k (said_more more shut k) refl refl h.rates;
        recent = h.recent;
      }
    where
      holds : (b : Bool) → pieces_by (length (k.sent.said ++ more)) b - k.sent.acked ≤ 32
      holds true = omega (arith, h.acked)
      holds false = omega (arith, h.acked)

  -- where it said all, or as much as there was room for, a further piece counts behind those that are acknowledged
  pub counts_more : n < total whole
      → (shut ≡ true) ⊎ ((shut ≡ false) × (length (k.sent.said ++ more) ≡ 1412 * (a + 32)))
      → a ≡ n → n < counting_of (sent_more more shut k.sent)
  counts_more short full rests = by full
    where
      all : shut ≡ true → length (k.sent.said ++ more) ≡ length whole
      all closed =
          ap (λ (ys : List ℕ). length ys)
          (sym (split ∙ ap (λ (ys : List ℕ). (k.sent.said ++ more) ++ ys) (ends closed)
          ∙ append-nil (k.sent.said ++ more)))

      by : (shut ≡ true) ⊎ ((shut ≡ false) × (length (k.sent.said ++ more) ≡ 1412 * (a + 32)))
          → n < counting_by (length (k.sent.said ++ more)) shut
      by (inl closed) = subst (λ (b : Bool). n < counting_by (length (k.sent.said ++ more)) b) (sym closed)
          (omega (arith, all closed))
      by (inr open_) = subst (λ (b : Bool). n < counting_by (length (k.sent.said ++ more)) b) (sym open_.0)
          (omega (arith, open_.1))
