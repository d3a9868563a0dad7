-- A handler ends.
use Rattle.std.proofs.Common.{◌≡◌, ◌≤◌, ◌+◌, ◌||◌, ℕ, ℤ, pos, zero, if◌then◌else◌, cond, nat_lt, Bool, true, false}
use Rattle.std.proofs.Common.{List, [], ◌∷◌, map}
use Rattle.std.proofs.Common.{Option, Some, None, option_map, refl, ◌∙◌, ap, sym, subst, arith, w32, to_z}
use Rattle.std.proofs.Common.{of_z, FitsSigned}
use Rattle.std.specs.Prelude.{IsSomeAnd}
use Rattle.std.proofs.lemmas.Bool.Decides.{nat_tests}
use Rattle.std.proofs.lemmas.Int.{to_z-of_z}
use Rattle.rx_model.specs.declared.names.CallName.{CallName}
use Rattle.rx_model.specs.Names.{Channel, channel_of, same_name}
use Rattle.rx_rules.specs.After.{finish_done, is_zero, owing_abort}
use Rattle.rx_rules.specs.CallLooks.{CallLooks, after_shut}
use Rattle.rx_rules.specs.Classes.{Class}
use Rattle.rx_rules.specs.Life.{Life, after_finish, is_active}
use Rattle.rx_rules.specs.Life as lives
use Rattle.rx_rules.specs.Looks.{CallRecord, Looks, call_at, call_named, latest, latest_name, on_channel, on_life}
use Rattle.rx_rules.specs.Looks.{on_looks}
use Rattle.rx_rules.specs.Received.{front_of, used_of}
use Rattle.rx_rules.specs.Rules.{served_by, served_finish}
use Rattle.rx_rules.specs.Setup.{Client, Kind, Server, Setup, is_client}
use Rattle.rx_rules.proofs.CallsLaws.{changed_if}
use Rattle.rx_history.proofs.Differ.{every_found}
use Rattle.rx_history.proofs.Dimensions.DimsEvents.{finish_dims}
use Rattle.rx_history.proofs.LifeFalls.{is_begun}
use Rattle.rx_history.proofs.Room.RoomShut.{roomy_finished, was_done}
use Rattle.rx_history.proofs.Room.RoomStarts.{RoomyAt}
use Rattle.rx_history.proofs.Laws.TakenLaws.{abort-number}
use Rattle.rx_history.proofs.Room.Tight.{TightOf}
use Rattle.rx_recvwin.specs.Places.{leading}
use Rattle.rx_recvwin.specs.Window.{window_of}
use Rattle.rx_recvwin.proofs.Nearness.{front_is, used_is}
use Rattle.rx_recvwin.proofs.SlotLaws.{leading_seen}
use Rattle.rx_call.specs.Kept.{call_under}
use Rattle.rx_call.specs.Standing.{EndOfCall, has_unread}
use Rattle.rx_call_ends.specs.Ends.{HasShutSlot, IsUnshut, StandsAs, StandsEnd}
use Rattle.rx_node.specs.Lives.{after_turn}
use Rattle.rx_node.specs.Mirrors.{IsActiveAt, IsChannel, Mirrors}
use Rattle.rx_node.specs.Node.{KeepsNode, NodeState, is_active_life, life_at, setup_of}
use Rattle.rx_node.specs.declared.life.Turn.{Turn}
use Rattle.rx_node.proofs.Steps.ActiveSteps.{active_stands, life_latest}
use Rattle.rx_node.proofs.Steps.ChannelSteps.{number_stays}
use Rattle.rx_node.proofs.KeptKeys.{key_on_channel, kept_setup}
use Rattle.rx_server.specs.Handling.{IsFound, MayFinish}
use Rattle.rx_server.specs.Server.{IsServerOf, IsServing, ServerState, Serves}
use Rattle.rx_server.proofs.RestLaws.{finish_rests}
use Rattle.rx_server.proofs.Serving.{SameRole, parts_stay, role_both, serves_quiet, serving_by}

-- ---- its kind and its code

-- a server is no client
pub server_kind : (kind : Kind) (service : ℕ) → IsServerOf kind service → is_client kind ≡ false
server_kind (Server named nonces) service is = refl
server_kind (Client host epoch) service is = absurd is

-- a code whose bits are 0 is 0
pub code_zero : (code : ℤ) → FitsSigned w32 code → of_z w32 code ≡ 0 → code ≡ pos 0
code_zero code fits is = sym (to_z-of_z w32 code fits) ∙ ap (to_z w32) is

pub code_other : (code : ℤ) → (of_z w32 code ≡ 0 → ⊥) → is_zero code ≡ false
code_other (pos zero) other = absurd (other refl)
code_other _ other = refl

-- ---- an open call

module _ (class : List ℕ → Class) (n : NodeState) (l : Looks) (m : Mirrors class n l)
    (server : is_client n.kind ≡ false)
    (key end : ℕ) (ch : Channel) (at : IsChannel l key ch) (a : IsActiveAt n key end) (k : CallRecord)
    (is : latest l ch ≡ Some k) (life : k.life ≡ lives.Accepted) where
  tight : TightOf (is_client n.kind) k
  tight =
      every_found (TightOf (is_client n.kind)) (λ j. same_name j.name (latest_name l ch)) l.calls k m.roomy.tight is

  stands : StandsEnd n.ends end k.looks
  stands = active_stands class n l m key end ch at a k is

  -- its own stream isn't shut
  pub open_unshut : IsUnshut n.ends end
  open_unshut = of (call_under n.ends.calls end) stands
    where
      of : (o : Option EndOfCall) → IsSomeAnd o (λ c. StandsAs n.ends c k.looks)
          → IsSomeAnd o (λ c. c.sent.shut ≡ false)
      of None s = absurd s
      of (Some c) s = s.stands.sent.shut ∙ tight.unshut server (ap is_begun life)

  none-unread : (used more : ℕ) → used + more ≤ used → nat_lt used (used + more) ≡ false
  none-unread used more low = grind (arith, nat_tests, low)

  -- where all was read none of what it holds is in front
  pub open_slot : k.looks.received.ended ≡ true → HasShutSlot n.ends end
  open_slot ended = of (call_under n.ends.calls end) stands
    where
      low : front_of k.looks.received.kept ≤ used_of k.looks.received
      low = (tight.whole (ap is_active life) ended).used

      of : (o : Option EndOfCall) → IsSomeAnd o (λ c. StandsAs n.ends c k.looks)
          → IsSomeAnd o (λ c. c.sent.total ≡ 0 → has_unread c.received ≡ false)
      of None s = absurd s
      of (Some c) s = λ total. (
          let used = used_is (window_of n.ends.pool c.received) k.looks.received s.stands.received in
          let front = front_is (window_of n.ends.pool c.received) k.looks.received s.stands.received.near
          ∙ ap (λ (n : ℕ). c.received.used + n) (leading_seen n.ends.pool c.received.places) in
          none-unread c.received.used (leading c.received.places) (omega (arith, used, front, low)))

  -- it is active still where its life turns to one that is
  pub open_turned : (turn : Turn) → is_active (after_turn turn lives.Accepted) ≡ true
      → is_active_life (option_map (after_turn turn) (life_at n key)) ≡ true
  open_turned turn active =
      ap (λ (o : Option Life). is_active_life (option_map (after_turn turn) o))
      (life_latest class n l m key ch at a.seat a.there ∙ ap (option_map (λ k. k.life)) is
      ∙ ap (λ (x : Life). Some x) life)
      ∙ active

-- ---- two changes of one call

-- the life and what passed at its end change in whichever order
pub life_beside : (c : CallName) (f : CallLooks → CallLooks) (g : Life → Life) (l : Looks)
    → on_looks c f (on_life c g l) ≡ on_life c g (on_looks c f l)
life_beside c f g l = ap (λ (ks : List CallRecord). record l { calls = ks }) (all l.calls)
  where
    heard : CallRecord → CallRecord
    heard k = record k { looks = f k.looks }

    turned : CallRecord → CallRecord
    turned k = record k { life = g k.life }

    one : (k : CallRecord)
        → changed_if c heard (changed_if c turned k) ≡ changed_if c turned (changed_if c heard k)
    one k =
        (elim (same_name k.name c) as (λ b. same_name k.name c ≡ b
        → changed_if c heard (cond b (turned k) k) ≡ changed_if c turned (cond b (heard k) k)) [
          | true ↦ λ is. rw is refl
          | false ↦ λ is. rw is refl
        ]) refl

    all : (ks : List CallRecord)
        → map (changed_if c heard) (map (changed_if c turned) ks) ≡ map (changed_if c turned)
        (map (changed_if c heard) ks)
    all [] = refl
    all (k ∷ ks) = (let here = one k in let rest = all ks in λ i. here i ∷ rest i)

-- ---- it ends well

module _ (class : List ℕ → Class) (old mid new : NodeState) (key : ℕ) (l : Looks) (c : CallName)
    (f : IsFound l c key lives.Accepted) (m : Mirrors class old l) where
  -- its life turns, then its stream is shut
  pub ended_well : is_client old.kind ≡ false → KeepsNode old mid
      → ((l : Looks) (ch : Channel) → Mirrors class old l → IsChannel l key ch
      → Mirrors class mid (on_life (latest_name l ch) (after_finish true (pos 0)) l))
      → ((l : Looks) (ch : Channel) → Mirrors class mid l → IsChannel l key ch
      → RoomyAt (setup_of class mid) (on_looks (latest_name l ch) after_shut l)
      → Mirrors class new (on_looks (latest_name l ch) after_shut l))
      → was_done ≡ served_finish (call_at l c) (pos 0) → Mirrors class new (finish_done c (pos 0) was_done l)
  ended_well server kept turned shut may =
      let ch : Channel = channel_of c in
      let behind : Looks = on_life (latest_name l ch) (after_finish true (pos 0)) l in
      let same : on_looks (latest_name l ch) after_shut behind ≡ finish_done c (pos 0) was_done l =
      (λ i. on_looks (f.latest i) after_shut (on_life (f.latest i) (after_finish true (pos 0)) l))
      ∙ life_beside c after_shut (after_finish true (pos 0)) l in
      let roomy : RoomyAt (setup_of class mid) (on_looks (latest_name l ch) after_shut behind) =
      subst (λ (s : Setup). RoomyAt s (on_looks (latest_name l ch) after_shut behind))
      (sym (kept_setup class old mid kept))
      (subst (λ (k : Looks). RoomyAt (setup_of class old) k) (sym same)
      (roomy_finished (setup_of class old) c (pos 0) was_done l server may m.roomy)) in
      subst (λ (k : Looks). Mirrors class new k) same
      (shut behind ch (turned l ch m f.channel)
      (record { conn = f.channel.conn; there = f.channel.there; is = f.channel.is }) roomy)

  -- ---- it ends with a code

  -- an ABORT is owed, then its life turns
  pub ended_ill : (code : ℤ) → is_zero code ≡ false
      → ((l : Looks) (ch : Channel) → Mirrors class old l → IsChannel l key ch
      → Mirrors class mid (on_channel ch (owing_abort (Some code)) l))
      → ((l : Looks) (ch : Channel) → Mirrors class mid l → IsChannel l key ch
      → Mirrors class new (on_life (latest_name l ch) (after_finish (is_zero code) code) l))
      → Mirrors class new (finish_done c code was_done l)
  ended_ill code other owed turned =
      let ch : Channel = channel_of c in
      let behind : Looks = on_channel ch (owing_abort (Some code)) l in
      let named : latest_name behind ch ≡ c =
      ap (λ (n : ℕ). call_named ch n) (number_stays l ch ch (owing_abort (Some code)) (abort-number (Some code)))
      ∙ f.latest in
      subst (λ (k : Looks). Mirrors class new k)
      ((λ i. on_life (named i) (after_finish (is_zero code) code) behind)
      ∙ ap (λ (b : Bool). on_life c (after_finish (is_zero code) code)
      (if b then on_looks c after_shut l else on_channel ch (owing_abort (Some code)) l)) (sym other))
      (turned behind ch (owed l ch m f.channel)
      (key_on_channel l ch (owing_abort (Some code)) key ch f.channel))

-- what it serves then
pub ended_serves : (class : List ℕ → Class) (sv : ServerState) (new : NodeState) (l : Looks) (c : CallName) (code : ℤ)
    → SameRole sv.node new → Mirrors class new (finish_done c code was_done l) → Serves class sv l
    → Serves class (record sv { node = new }) (finish_done c code was_done l)
ended_serves class sv new l c code role mirrors serves =
    serves_quiet class sv new l (finish_done c code was_done l) role (finish_dims c code was_done l)
    (finish_rests c code was_done l)
    mirrors serves

module _ (class : List ℕ → Class) (sv : ServerState) (mid new : NodeState) (key : ℕ) (code : ℤ)
    (kept : KeepsNode sv.node mid) (same : KeepsNode mid new) where
  -- with 0
  pub well_serves : code ≡ pos 0 → IsServerOf sv.node.kind sv.service
      → ((l : Looks) (ch : Channel) → Mirrors class sv.node l → IsChannel l key ch
      → Mirrors class mid (on_life (latest_name l ch) (after_finish true (pos 0)) l))
      → ((l : Looks) (ch : Channel) → Mirrors class mid l → IsChannel l key ch
      → RoomyAt (setup_of class mid) (on_looks (latest_name l ch) after_shut l)
      → Mirrors class new (on_looks (latest_name l ch) after_shut l))
      → (l : Looks) (c : CallName) → Serves class sv l → IsFound l c key lives.Accepted
      → was_done ≡ served_finish (call_at l c) code
      → Serves class (record sv { node = new }) (finish_done c code was_done l)
  well_serves is server turned shut l c serves found may =
      ended_serves class sv new l c code (role_both sv.node mid new kept same)
      (subst (λ (z : ℤ). Mirrors class new (finish_done c z was_done l)) (sym is)
      (ended_well class sv.node mid new key l c found serves.mirrors (server_kind sv.node.kind sv.service server)
      kept turned
      shut (subst (λ (z : ℤ). was_done ≡ served_finish (call_at l c) z) is may))) serves

  -- with another code
  pub ill_serves : is_zero code ≡ false
      → ((l : Looks) (ch : Channel) → Mirrors class sv.node l → IsChannel l key ch
      → Mirrors class mid (on_channel ch (owing_abort (Some code)) l))
      → ((l : Looks) (ch : Channel) → Mirrors class mid l → IsChannel l key ch
      → Mirrors class new (on_life (latest_name l ch) (after_finish (is_zero code) code) l))
      → (l : Looks) (c : CallName) → Serves class sv l → IsFound l c key lives.Accepted
      → Serves class (record sv { node = new }) (finish_done c code was_done l)
  ill_serves other owed turned l c serves found =
      ended_serves class sv new l c code (role_both sv.node mid new kept same)
      (ended_ill class sv.node mid new key l c found serves.mirrors code other owed turned) serves

-- it serves on
pub ended_serving : (class : List ℕ → Class) (sv : ServerState) (new : NodeState) (key : ℕ) (code : ℤ)
    → KeepsNode sv.node new
    → ((l : Looks) → Serves class sv l → MayFinish l key code)
    → ((l : Looks) (c : CallName) → Serves class sv l → IsFound l c key lives.Accepted
    → was_done ≡ served_finish (call_at l c) code
    → Serves class (record sv { node = new }) (finish_done c code was_done l))
    → IsServing class sv → IsServing class (record sv { node = new })
ended_serving class sv new key code kept may serves is =
    (let its = may is.looks is.serves in
    serving_by class sv new (finish_done its.name code was_done is.looks) (parts_stay sv.node new kept)
    (serves is.looks its.name is.serves its.found its.may) is)

-- ---- what was read

-- a call that may be finished with 0 was read to its end
pub read_whole : (l : Looks) (c : CallName) (key : ℕ) (code : ℤ) → (f : IsFound l c key lives.Accepted) → code ≡ pos 0
    → was_done ≡ served_finish (call_at l c) code → f.call.looks.received.ended ≡ true
read_whole l c key code f is may =
    let its : was_done ≡ served_by lives.Accepted (f.call.looks.received.ended || false) tt =
    may ∙ ap (served_finish (call_at l c)) is ∙ ap (λ (o : Option CallRecord). served_finish o (pos 0)) f.there
    ∙ ap (λ (x : Life). served_by x (f.call.looks.received.ended || false) tt) f.life_is in
    of f.call.looks.received.ended its
  where
    of : (b : Bool) → was_done ≡ served_by lives.Accepted (b || false) tt → b ≡ true
    of true is = refl
    of false is = absurd (cc (is))
