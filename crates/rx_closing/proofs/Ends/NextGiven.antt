-- What an end that isn't prompt gives next, with its cause; and what isn't due of it where it gives nothing.
use Rattle.std.proofs.Common.{◌≡◌, ◌<◌, ◌≤◌, ◌⊎◌, ◌+◌, ◌++◌, if◌then◌else◌, ℕ, suc, Bool, true, false, List, []}
use Rattle.std.proofs.Common.{◌∷◌, Option, Some, None, option_map, filter, nat_le, refl, ap, sym, subst, inl, inr}
use Rattle.std.proofs.Common.{⊎_elim, arith}
use Rattle.std.proofs.lemmas.Bool.{cases_lt, le-leb, leb-true}
use Rattle.rx_model.specs.declared.wire.TheConstants.{ACK_PING, PING_MS}
use Rattle.rx_rules.specs.CallItems.{CallItem, Sending, Piece, Ack, ack_items, again_items, call_items, can_give}
use Rattle.rx_rules.specs.CallItems.{fresh_items, lost_items, next_sending, piece_items, ping_items, resend_after}
use Rattle.rx_rules.specs.CallLooks.{CallLooks, NodeView}
use Rattle.rx_rules.specs.Least.{least_by}
use Rattle.rx_rules.specs.Lost.{lost_of}
use Rattle.rx_rules.specs.Owing.{Owed}
use Rattle.rx_rules.specs.Rates.{Cwnd}
use Rattle.rx_rules.specs.Sent.{LastGiving, Sent, given_of, last_giving, lowest_of}
use Rattle.rx_rules.specs.Setup.{Setup, is_client, receiving_window}
use Rattle.rx_between.proofs.Each.EachItem.{In, in_behind, in_filter, in_front, least_in, least_none}
use Rattle.rx_closing.proofs.Steps.{IsViewAt}
use Rattle.rx_between.proofs.Within.{in_either}
use Rattle.rx_closing.proofs.Living.InLists.{in_filter_back}

-- ---- a node's view

-- one with no slot left
abbrev pub view_at : Setup → ℕ → NodeView
view_at s now = record { client = is_client s.kind; window = receiving_window s; left = 0; now = now }

pub is_view_at : (s : Setup) (now : ℕ) → IsViewAt s now (view_at s now)
is_view_at s now = record { client = refl; window = refl; moment = refl }

-- ---- lists

-- ---- what it gives

-- a fresh piece, the lowest one again, the acknowledgement that is owed, or a ping
pub data NextOf (v : NodeView) (k : CallLooks) (x : Sending) : Type 0 where
  is_fresh : can_give k.cwnd k.sent ≡ true → x ≡ Piece (suc (given_of k.sent)) false → NextOf v k x
  is_again : (g : LastGiving) → last_giving k.sent.givings (lowest_of k.sent) ≡ Some g → g.moment + k.rtt.rto ≤ v.now
      → x ≡ Piece (lowest_of k.sent) true → NextOf v k x
  is_owed : (o : Owed) → k.owed_ack ≡ Some o → o.rank ≤ v.now → x ≡ Ack o.reason o.serial → NextOf v k x
  is_ping : v.client ≡ true → k.spoke + PING_MS ≤ v.now → x ≡ Ack ACK_PING 0 → NextOf v k x

-- where nothing is taken for lost
lost-none : (c : Cwnd) (s : Sent) → c.prompt ≡ false → lost_of c s ≡ None
lost-none c s steady = rw steady refl

module _ (v : NodeView) (k : CallLooks) (steady : k.cwnd.prompt ≡ false) where
  one : (i : CallItem) (rank : ℕ) (x : Sending) → In i (record { rank = rank; sending = x } ∷ [])
      → i ≡ record { rank = rank; sending = x }
  one i rank x (inl same) = same
  one i rank x (inr none) = absurd none

  of-fresh : (i : CallItem) → In i (fresh_items k.cwnd k.sent) → NextOf v k i.sending
  of-fresh i there = of (can_give k.cwnd k.sent) refl there
    where
      of : (b : Bool) → can_give k.cwnd k.sent ≡ b
          → In i (if b then record { rank = 0; sending = Piece (suc (given_of k.sent)) false } ∷ [] else [])
          → NextOf v k i.sending
      of true can there =
          is_fresh can (ap (λ (j : CallItem). j.sending) (one i 0 (Piece (suc (given_of k.sent)) false) there))
      of false can there = absurd there

  of-again : (i : CallItem) (g : Option LastGiving) → last_giving k.sent.givings (lowest_of k.sent) ≡ g
      → In i (again_items k.rtt.rto (lowest_of k.sent) g) → i.rank ≤ v.now → NextOf v k i.sending
  of-again i None is there due = absurd there
  of-again i (Some g) is there due =
      let same = one i (g.moment + k.rtt.rto) (Piece (lowest_of k.sent) true) there in
      let at : i.rank ≡ g.moment + k.rtt.rto = ap (λ (j : CallItem). j.rank) same in
      is_again g is (omega (arith, at, due)) (ap (λ (j : CallItem). j.sending) same)

  of-owed : (i : CallItem) (o : Option Owed) → k.owed_ack ≡ o → In i (ack_items o) → i.rank ≤ v.now
      → NextOf v k i.sending
  of-owed i None is there due = absurd there
  of-owed i (Some o) is there due =
      let same = one i o.rank (Ack o.reason o.serial) there in
      let at : i.rank ≡ o.rank = ap (λ (j : CallItem). j.rank) same in
      is_owed o is (omega (arith, at, due)) (ap (λ (j : CallItem). j.sending) same)

  of-ping : (i : CallItem) (b : Bool) → v.client ≡ b → In i (ping_items b k.spoke) → i.rank ≤ v.now
      → NextOf v k i.sending
  of-ping i true is there due =
      let same = one i (k.spoke + PING_MS) (Ack ACK_PING 0) there in
      let at : i.rank ≡ k.spoke + PING_MS = ap (λ (j : CallItem). j.rank) same in
      is_ping is (omega (arith, at, due)) (ap (λ (j : CallItem). j.sending) same)
  of-ping i false is there due = absurd there

  of-lost : (i : CallItem) → In i (lost_items (lost_of k.cwnd k.sent)) → ⊥
  of-lost i there = subst (λ (o : Option ℕ). In i (lost_items o)) (lost-none k.cwnd k.sent steady) there

  waits : resend_after k.rtt.rto k.cwnd.prompt (last_giving k.sent.givings (lowest_of k.sent)) ≡ k.rtt.rto
  waits = rw steady refl

  of-items : (i : CallItem) → In i (call_items v.client k) → i.rank ≤ v.now → NextOf v k i.sending
  of-items i there due =
      ⊎_elim
      (λ (pieces : In i (piece_items k.rtt.rto k.cwnd k.sent)).
      ⊎_elim (λ (lost : In i (lost_items (lost_of k.cwnd k.sent))). absurd (of-lost i lost))
      (λ (others : In i (fresh_items k.cwnd k.sent ++ _)).
      ⊎_elim (λ (fresh : In i (fresh_items k.cwnd k.sent)). of-fresh i fresh)
      (λ (again : In i (again_items _ (lowest_of k.sent) (last_giving k.sent.givings (lowest_of k.sent)))).
      of-again i (last_giving k.sent.givings (lowest_of k.sent)) refl
      (subst (λ (w : ℕ). In i (again_items w (lowest_of k.sent) (last_giving k.sent.givings (lowest_of k.sent)))) waits
      again) due)
      (in_either i (fresh_items k.cwnd k.sent) _ others))
      (in_either i (lost_items (lost_of k.cwnd k.sent)) _ pieces))
      (λ (rest : In i (ack_items k.owed_ack ++ ping_items v.client k.spoke)).
      ⊎_elim (λ (ack : In i (ack_items k.owed_ack)). of-owed i k.owed_ack refl ack due)
      (λ (ping : In i (ping_items v.client k.spoke)). of-ping i v.client refl ping due)
      (in_either i (ack_items k.owed_ack) (ping_items v.client k.spoke) rest))
      (in_either i (piece_items k.rtt.rto k.cwnd k.sent) (ack_items k.owed_ack ++ ping_items v.client k.spoke) there)

  pub next_is : (x : Sending) → next_sending v k ≡ Some x → NextOf v k x
  next_is x is = of (least_by (λ (i : CallItem). i.rank) due) refl is
    where
      due : List CallItem
      due = filter (λ (i : CallItem). nat_le i.rank v.now) (call_items v.client k)

      some_is : (a b : Sending) → ◌≡◌ {A = Option Sending} (Some a) (Some b) → a ≡ b
      some_is a b same = cc

      of : (o : Option CallItem) → least_by (λ (i : CallItem). i.rank) due ≡ o
          → option_map (λ (i : CallItem). i.sending) o ≡ Some x → NextOf v k x
      of None least is = absurd cc
      of (Some i) least is =
          (let found = in_filter_back (λ (j : CallItem). nat_le j.rank v.now) i (call_items v.client k)
          (least_in (λ (j : CallItem). j.rank) i due least) in
          subst (λ (y : Sending). NextOf v k y) (some_is i.sending x is)
          (of-items i found.0 (leb-true i.rank v.now found.1)))

-- ---- where it gives nothing

-- nothing that it owes is due
later : (v : NodeView) (k : CallLooks) (i : CallItem) → next_sending v k ≡ None → In i (call_items v.client k)
    → v.now < i.rank
later v k i none there =
    elim (cases_lt v.now i.rank) as (λ c. v.now < i.rank) [
      | inl after ↦ after
      | inr due ↦ absurd (subst (λ (is : List CallItem). In i is)
          (least_none (λ (j : CallItem). j.rank)
          (filter (λ (j : CallItem). nat_le j.rank v.now) (call_items v.client k))
          (nothing (least_by (λ (j : CallItem). j.rank)
          (filter (λ (j : CallItem). nat_le j.rank v.now) (call_items v.client k))) none))
          (in_filter (λ (j : CallItem). nat_le j.rank v.now) i (call_items v.client k) there
          (le-leb i.rank v.now due)))
    ]
  where
    nothing : (o : Option CallItem) → option_map (λ (j : CallItem). j.sending) o ≡ None → o ≡ None
    nothing None is = refl
    nothing (Some j) is = absurd cc

pub none_owed : (v : NodeView) (k : CallLooks) (o : Owed) → next_sending v k ≡ None → k.owed_ack ≡ Some o
    → v.now < o.rank
none_owed v k o none is =
    later v k (record { rank = o.rank; sending = Ack o.reason o.serial }) none
    (in_behind _ (piece_items k.rtt.rto k.cwnd k.sent) _
    (in_front _ (ack_items k.owed_ack) _
    (subst (λ (q : Option Owed). In (record { rank = o.rank; sending = Ack o.reason o.serial }) (ack_items q)) (sym is)
    (inl refl))))

pub none_pinged : (v : NodeView) (k : CallLooks) → next_sending v k ≡ None → v.client ≡ true
    → v.now < k.spoke + PING_MS
none_pinged v k none client =
    later v k (record { rank = k.spoke + PING_MS; sending = Ack ACK_PING 0 }) none
    (in_behind _ (piece_items k.rtt.rto k.cwnd k.sent) _
    (in_behind _ (ack_items k.owed_ack) _
    (subst (λ (b : Bool). In (record { rank = k.spoke + PING_MS; sending = Ack ACK_PING 0 }) (ping_items b k.spoke))
    (sym client) (inl refl))))

pub none_fresh : (v : NodeView) (k : CallLooks) → next_sending v k ≡ None → can_give k.cwnd k.sent ≡ false
none_fresh v k none = of (can_give k.cwnd k.sent) refl
  where
    of : (b : Bool) → can_give k.cwnd k.sent ≡ b → b ≡ false
    of false can = refl
    of true can =
        absurd (let late : v.now < 0 = later v k
        (record { rank = 0; sending = Piece (suc (given_of k.sent)) false }) none
        (in_front _ (piece_items k.rtt.rto k.cwnd k.sent) _
        (in_behind _ (lost_items (lost_of k.cwnd k.sent)) _
        (in_front _ (fresh_items k.cwnd k.sent) _
        (subst (λ (b : Bool). In {X = CallItem} (record { rank = 0; sending = Piece (suc (given_of k.sent)) false })
        (if b then record { rank = 0; sending = Piece (suc (given_of k.sent)) false } ∷ [] else [])) (sym can)
        (inl refl))))) in omega arith)

-- the lowest piece, where it was given, is due again behind the wait
pub again_there : (client : Bool) (k : CallLooks) (g : LastGiving) → k.cwnd.prompt ≡ false
    → last_giving k.sent.givings (lowest_of k.sent) ≡ Some g
    → In (record { rank = g.moment + k.rtt.rto; sending = Piece (lowest_of k.sent) true }) (call_items client k)
again_there client k g steady is =
    (in_front item (piece_items k.rtt.rto k.cwnd k.sent) _
    (in_behind item (lost_items (lost_of k.cwnd k.sent)) _
    (in_behind item (fresh_items k.cwnd k.sent) _
    (subst (λ (w : ℕ). In item (again_items w (lowest_of k.sent) (last_giving k.sent.givings (lowest_of k.sent))))
    (sym wait_is)
    (subst (λ (o : Option LastGiving). In item (again_items k.rtt.rto (lowest_of k.sent) o)) (sym is) (inl refl))))))
  where
    item : CallItem
    item = record { rank = g.moment + k.rtt.rto; sending = Piece (lowest_of k.sent) true }

    wait_is : resend_after k.rtt.rto k.cwnd.prompt (last_giving k.sent.givings (lowest_of k.sent)) ≡ k.rtt.rto
    wait_is = rw steady refl

pub none_again : (v : NodeView) (k : CallLooks) (g : LastGiving) → k.cwnd.prompt ≡ false → next_sending v k ≡ None
    → last_giving k.sent.givings (lowest_of k.sent) ≡ Some g → v.now < g.moment + k.rtt.rto
none_again v k g steady none is =
    later v k (record { rank = g.moment + k.rtt.rto; sending = Piece (lowest_of k.sent) true }) none
    (again_there v.client k g steady is)
