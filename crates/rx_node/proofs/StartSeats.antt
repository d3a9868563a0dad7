-- What every node keeps stays where a call starts, and what its start needs.
use Rattle.std.proofs.Common.{◌≡◌, ◌<◌, ◌+◌, ◌/◌, ◌%◌, ℕ, true, List, set}
use Rattle.std.proofs.Common.{Option, Some, None, option_map, refl, ◌∙◌, ap, sym, subst, arith}
use Rattle.std.specs.Prelude.{IsSomeAnd, is_some, slice_get}
use Rattle.std.proofs.lemmas.Bool.{false≢true}
use Rattle.std.proofs.lemmas.List.{length-set}
use Rattle.rx_model.specs.Names.{Channel}
use Rattle.rx_rules.specs.CallLooks.{CallLooks, fresh_call}
use Rattle.rx_rules.specs.Classes.{Class}
use Rattle.rx_rules.specs.Life.{is_active}
use Rattle.rx_rules.specs.Looks.{Looks, call_named}
use Rattle.rx_rules.specs.Records.{started}
use Rattle.rx_rules.specs.Setup.{is_client}
use Rattle.rx_history.proofs.Order.Orderly.{Orderly}
use Rattle.rx_history.proofs.Room.RoomStarts.{RoomyAt}
use Rattle.rx_call.specs.Kept.{call_under, live_count}
use Rattle.rx_call.specs.Standing.{EndOfCall}
use Rattle.rx_model.specs.declared.pace.Pace.{Pace}
use Rattle.rx_call_ends.specs.Ends.{EndsState, KeepsEnds, StandsAs, StandsEnd}
use Rattle.rx_table.specs.declared.seat.Seat.{Seat}
use Rattle.rx_table.specs.Records.{seat_at, with_seat}
use Rattle.rx_node.specs.declared.life.Life.{Life as CodeLife}
use Rattle.rx_node.specs.Lives.{is_of, life_of}
use Rattle.rx_node.specs.Mirrors.{IsChannel, Mirrors}
use Rattle.rx_node.specs.Node.{IsSeated, IsSetUp, KeepsNode, NodeState, is_active_life, setup_of}
use Rattle.rx_node.proofs.KeptNode.{names-changed}
use Rattle.rx_node.proofs.LifeLaws.{live_if_active}
use Rattle.rx_node.proofs.Steps.SeatedSteps.{reseated, set_up_alike}
use Rattle.rx_node.proofs.Steps.StartSteps.{mirrors_started, started_seat}
use Rattle.rx_node.proofs.Steps.TableSteps.{changed-length, record_seated, seat_changed, seat_stays, seated, set-other}
use Rattle.rx_node.proofs.Steps.TableSteps.{set-own}

-- what a node has for a call that starts under a free seat, with an end that wasn't there
pub record Opens (n : NodeState) (key end : ℕ) (old : Seat) (code before : CodeLife) (e : EndsState) : Type 0 where
  pub there : seat_at n.table key ≡ Some old
  pub free : old.live ≡ None
  pub had : slice_get n.lives key ≡ Some before
  pub active : is_active (life_of code) ≡ true
  pub kind : is_of (is_client n.kind) (life_of code) ≡ true
  pub absent : call_under n.ends.calls end ≡ None
  pub keeps : KeepsEnds n.ends e end
  pub stands : StandsEnd e end (fresh_call n.ends.calls.pace n.moment)
  pub count : live_count e.calls ≡ live_count n.ends.calls + 1
  pub common : e.common ≡ n.ends.common

module _ (class : List ℕ → Class) (n : NodeState) (set_up : IsSetUp class n) (seats : IsSeated n) (key end : ℕ)
    (old : Seat) (code before : CodeLife) (e : EndsState) (by : Opens n key end old code before e) (number : ℕ) where
  abbrev pub opened : NodeState
  opened =
      record n {
        table = with_seat n.table key (started_seat number end);
        ends = e;
        lives = set n.lives key code;
        live = n.live + 1;
      }

  none-there : (o : Option EndOfCall) → o ≡ None → is_some o ≡ true → ⊥
  none-there None is there = false≢true there
  none-there (Some c) is there = cc (is)

  not-named : (k : ℕ) (s : Seat) → seat_at n.table k ≡ Some s → s.live ≡ Some end → ⊥
  not-named k s is names = none-there (call_under n.ends.calls end) by.absent (seats.there k s end is names)

  stands-there : (o : Option EndOfCall) (k : CallLooks) → IsSomeAnd o (λ c. StandsAs e c k) → is_some o ≡ true
  stands-there None k is = absurd is
  stands-there (Some c) k is = refl

  its-seat : (s : Seat) → seat_at (with_seat n.table key (started_seat number end)) key ≡ Some s
      → started_seat number end ≡ s
  its-seat s is = (let both = sym (seat_changed n.table key old (started_seat number end) by.there) ∙ is in cc (both))

  own-code : slice_get (set n.lives key code) key ≡ Some code
  own-code = set-own n.lives key before code by.had

  pub opened_set_up : IsSetUp class opened
  opened_set_up =
      set_up_alike class n (with_seat n.table key (started_seat number end)) e (set n.lives key code) (n.live + 1)
      (record {
        room = refl;
        conns = changed-length n.table.conns (key / 4) (seated (key % 4) (started_seat number end));
        lives = length-set n.lives key code;
        client = by.keeps.client;
        calls = by.keeps.others.room;
        pace = by.keeps.others.pace;
        shared = by.keeps.shared;
      }) set_up

  pub opened_seated : IsSeated opened
  opened_seated =
      reseated n key end (with_seat n.table key (started_seat number end)) e (set n.lives key code) (n.live + 1)
      (record {
        others = λ k apart. seat_stays n.table key k (started_seat number end) apart;
        records = λ place b is. record_seated n.table key (started_seat number end) place b is;
        ends_stay = by.keeps.others.others;
        lives_stay = λ k apart. set-other n.lives key k code apart;
        free = λ k s apart is names. not-named k s is names;
        names = λ s q is names. (
            let both : Some end ≡ Some q = ap (λ (u : Seat). u.live) (its-seat s is) ∙ names in cc (both));
        there = λ s q is names. stands-there (call_under e.calls end)
            (fresh_call n.ends.calls.pace n.moment) by.stands;
        idle = λ s q is names inactive.
            absurd (false≢true (sym inactive
            ∙ ap (λ (o : Option CodeLife). is_active_life (option_map life_of o)) own-code
            ∙ by.active));
        kinds = λ s q life is names its. (
            let same : code ≡ life = (let both = sym own-code ∙ its in cc (both)) in
            subst (λ (c : CodeLife). is_of (is_client n.kind) (life_of c) ≡ true) same by.kind);
        count = (let all = seats.count in let more = by.count in omega arith);
      }) seats

  pub opened_kept : KeepsNode n opened
  opened_kept =
      record {
        kind = refl;
        limits = refl;
        prompt = refl;
        secret = refl;
        moment = refl;
        names = names-changed n.table.conns (key / 4) (seated (key % 4) (started_seat number end)) (λ r. refl);
      }

  -- it mirrors the start
  pub mirrors_opened : 0 < number → (l : Looks) (ch : Channel) (m : Mirrors class n l) → IsChannel l key ch
      → Orderly (setup_of class n) (started (setup_of class n) (life_of code) (call_named ch number) l)
      → RoomyAt (setup_of class n) (started (setup_of class n) (life_of code) (call_named ch number) l)
      → Mirrors class opened (started (setup_of class n) (life_of code) (call_named ch number) l)
  mirrors_opened some l ch m at orderly roomy =
      mirrors_started class n l m seats key ch at old by.there by.free number end (life_of code) e
      (set n.lives key code)
      (record {
        numbered = λ zero. omega arith;
        active = by.active;
        living = live_if_active (life_of code) by.active;
        its_life = ap (option_map life_of) own-code;
        others = λ k apart. set-other n.lives key k code apart;
        stands = subst (λ (w : Pace). StandsEnd e end (fresh_call w l.now)) set_up.pace
            (subst (λ (t : ℕ). StandsEnd e end (fresh_call n.ends.calls.pace t)) m.now
            by.stands);
        aside = λ q looks apart s. by.keeps.stands q looks apart s;
        absent = not-named;
        common = by.common;
      }) orderly roomy
