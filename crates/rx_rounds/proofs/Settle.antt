-- The end of a round of a server and one client: where nothing was given both clocks move to the least moment from
-- which something is due, and else nothing changes.
use Rattle.std.proofs.Common.{◌≡◌, ◌<◌, ◌≤◌, ◌+◌, ◌-◌, ◌^◌, ◌⊎◌, ◌++◌, not, max, ℕ, zero, suc, Bool, true, false}
use Rattle.std.proofs.Common.{List, [], ◌∷◌, refl, ap, sym, subst, ◌∙◌, inl, inr, Option, Some, None, option_map, map}
use Rattle.std.proofs.Common.{nat_le, append-nil, leb-true, leb-false, arith}
use Rattle.std.proofs.lemmas.Bool.{lt-leb}
use Rattle.std.specs.List.{list_any}
use Rattle.rx_model.specs.declared.names.CallName.{CallName}
use Rattle.rx_model.specs.declared.wire.TheConstants.{ACK_PING, PING_MS, SILENCE_MS}
use Rattle.rx_model.proofs.NameLaws.{number_itself}
use Rattle.rx_rules.specs.CallItems.{Ack, CallItem, ack_items, call_items, piece_items, ping_items}
use Rattle.rx_rules.specs.CallLooks.{CallLooks}
use Rattle.rx_rules.specs.Items.{Item, due, item_of, moments}
use Rattle.rx_rules.specs.Least.{least_by}
use Rattle.rx_rules.specs.Life.{Life, is_active, is_live}
use Rattle.rx_rules.specs.Life as lives
use Rattle.rx_rules.specs.Looks.{CallRecord, Looks}
use Rattle.rx_rules.specs.Setup.{Setup}
use Rattle.rx_history.specs.Sides.{Node, moment}
use Rattle.rx_jobs.specs.Jobs.{JobState}
use Rattle.rx_events.specs.Waits.{least_of, least_wait, over_nodes, wait_at}
use Rattle.rx_plan.specs.Rounds.{may_move, settles}
use Rattle.rx_plan.specs.Stages.{InvokedState, Stage}
use Rattle.rx_rounds.proofs.Clocks.Clocked.{later, moment_client, moment_server, settles_moves}
use Rattle.rx_between.proofs.Each.EachItem.{In, in_behind, in_front, in_map, least_in, least_low, least_none}
use Rattle.rx_rounds.proofs.One.OneCall.{Ends, client_setup, from_client, from_server, node_of, server_setup}
use Rattle.rx_rounds.proofs.One.OneCall.{the_record}
use Rattle.rx_rounds.proofs.Rounded.{Made, settles_not, settles_still}
use Rattle.rx_rounds.proofs.Two.{Two}

-- ---- the least of two waits

-- how long it is from a moment to the least of these
abbrev pub wait_in : ℕ → List ℕ → Option ℕ
wait_in now ms = option_map (λ m. m - now) (option_map (max now) (least_by (λ (m : ℕ). m) ms))

-- a moment stands in one of two lists
abbrev pub InEither : ℕ → List ℕ → List ℕ → Type 0
InEither m xs ys = In m xs ⊎ In m ys

-- so long it is to the least of two lists: no moment passes, and one is reached
pub record IsLeast (now : ℕ) (xs ys : List ℕ) (wait : ℕ) : Type 0 where
  pub near : (m : ℕ) → InEither m xs ys → now + wait ≤ max now m
  pub reached : (m : ℕ) × InEither m xs ys × (m ≤ now + wait)

-- there is one, where the second list has a moment
least_two : (now : ℕ) (xs ys : List ℕ) (some : ℕ) → In some ys
    → (wait : ℕ) × (least_of (wait_in now xs ∷ wait_in now ys ∷ []) ≡ Some wait) × IsLeast now xs ys wait
least_two now xs ys some there = of (least_by (λ (m : ℕ). m) xs) (least_by (λ (m : ℕ). m) ys) refl refl
  where
    of : (o q : Option ℕ) → least_by (λ (m : ℕ). m) xs ≡ o → least_by (λ (m : ℕ). m) ys ≡ q
        → (wait : ℕ) × (least_of (wait_in now xs ∷ wait_in now ys ∷ []) ≡ Some wait) × IsLeast now xs ys wait
    of o None is none =
        absurd (subst (λ (ms : List ℕ). In some ms) (least_none (λ (m : ℕ). m) ys none) there)
    of None (Some b) none is = (
      max now b - now,
      rw (none, is) refl,
      record {
        near = λ m where_. by m where_;
        reached = (b, inr (least_in (λ (m : ℕ). m) b ys is), omega arith);
      },
    )
      where
        by : (m : ℕ) → InEither m xs ys → now + (max now b - now) ≤ max now m
        by m (inl first) = absurd (subst (λ (ms : List ℕ). In m ms) (least_none (λ (k : ℕ). k) xs none) first)
        by m (inr second) =
            let low : b ≤ m = least_low (λ (k : ℕ). k) b m ys is second in omega arith
    of (Some a) (Some b) first second =
        by (nat_le (max now a - now) (max now b - now)) refl
      where
        low_a : (m : ℕ) → In m xs → a ≤ m
        low_a m in_ = least_low (λ (k : ℕ). k) a m xs first in_

        low_b : (m : ℕ) → In m ys → b ≤ m
        low_b m in_ = least_low (λ (k : ℕ). k) b m ys second in_

        near_a : max now a - now ≤ max now b - now → (m : ℕ) → InEither m xs ys → now + (max now a - now) ≤ max now m
        near_a less m (inl in_) = (let low = low_a m in_ in omega arith)
        near_a less m (inr in_) = (let low = low_b m in_ in omega arith)

        near_b : max now b - now < max now a - now → (m : ℕ) → InEither m xs ys → now + (max now b - now) ≤ max now m
        near_b less m (inl in_) = (let low = low_a m in_ in omega arith)
        near_b less m (inr in_) = (let low = low_b m in_ in omega arith)

        by : (t : Bool) → nat_le (max now a - now) (max now b - now) ≡ t
            → (wait : ℕ) × (least_of (wait_in now xs ∷ wait_in now ys ∷ []) ≡ Some wait) × IsLeast now xs ys wait
        by true is = (
          max now a - now,
          rw (first, second, is) refl,
          record {
            near = near_a (leb-true (max now a - now) (max now b - now) is);
            reached = (a, inl (least_in (λ (m : ℕ). m) a xs first), omega arith);
          },
        )
        by false is = (
          max now b - now,
          rw (first, second, is) refl,
          record {
            near = near_b (leb-false (max now a - now) (max now b - now) is);
            reached = (b, inr (least_in (λ (m : ℕ). m) b ys second), omega arith);
          },
        )

-- ---- the end of a round

-- a node at another moment
abbrev pub at_moment : ℕ → Looks → Looks
at_moment now l = record l { now = now }

-- how both nodes stand behind it, from this moment on, where these moments were due at the server and at the client
pub record Settled (x : Ends) (ls lc : Looks) (cs : List InvokedState) (js : List JobState) (now : ℕ)
    (due_server due_client : List ℕ) (quiet : Bool) (t : Stage) : Type 0 where
  pub then_now : ℕ
  pub from : now ≤ then_now
  pub two : Two x (at_moment then_now ls) (at_moment then_now lc) cs js t
  pub still : quiet ≡ false → then_now ≡ now
  pub near : (m : ℕ) → InEither m due_server due_client → then_now ≤ max now m
  pub reached : quiet ≡ true → (m : ℕ) × InEither m due_server due_client × (m ≤ then_now)

module _ (x : Ends) (ls lc : Looks) (cs : List InvokedState) (js : List JobState) (now : ℕ)
    (due_server due_client : List ℕ) (server_now : ls.now ≡ now) (client_now : lc.now ≡ now)
    (server_due : moments (server_setup x) ls ≡ due_server) (client_due : moments (client_setup x) lc ≡ due_client)
    (soon : ℕ) (there : In soon due_client) (not_far : soon ≤ now + 2000) (early : now + 2000 < 2 ^ 62) where
  abbrev Is : Bool → Stage → Type 0
  Is = Settled x ls lc cs js now due_server due_client

  moved : (then_ : ℕ) (l : Looks) → l.now ≡ now → now ≡ then_ → l ≡ at_moment then_ l
  moved then_ l is same = ap (λ (n : ℕ). at_moment n l) (is ∙ same)

  stays : (quiet : Bool) (s t : Stage) → Two x ls lc cs js s → t ≡ s
      → (quiet ≡ true → (m : ℕ) × InEither m due_server due_client × (m ≤ now)) → Is quiet t
  stays quiet s t two same reached =
      record {
        then_now = now;
        from = omega arith;
        two =
            subst (λ (l : Looks). Two x l (at_moment now lc) cs js t) (moved now ls server_now refl)
            (subst (λ (l : Looks). Two x ls l cs js t) (moved now lc client_now refl)
            (subst (λ (u : Stage). Two x ls lc cs js u) (sym same) two));
        still = λ loud. refl;
        near = λ m in_. omega arith;
        reached = reached;
      }

  -- ---- how long it is

  server_waits : (s : Stage) → Two x ls lc cs js s
      → wait_at s.history 0 (record { host = x.server; setup = server_setup x }) ≡ wait_in now due_server
  server_waits s two =
      ap (λ (l : Looks). option_map (λ m. m - moment 0 s.history) (due (server_setup x) l)) two.server
      ∙ ap (λ (n : ℕ). option_map (λ m. m - n) (due (server_setup x) ls))
      (moment_server x ls lc cs js s two ∙ server_now)
      ∙ ap (λ (n : ℕ). option_map (λ m. m - now) (option_map (max n) (least_by (λ (m : ℕ). m)
      (moments (server_setup x) ls)))) server_now
      ∙ ap (wait_in now) server_due

  client_waits : (s : Stage) → Two x ls lc cs js s
      → wait_at s.history 1 (record { host = x.client; setup = client_setup x }) ≡ wait_in now due_client
  client_waits s two =
      ap (λ (l : Looks). option_map (λ m. m - moment 1 s.history) (due (client_setup x) l)) two.client
      ∙ ap (λ (n : ℕ). option_map (λ m. m - n) (due (client_setup x) lc))
      (moment_client x ls lc cs js s two ∙ client_now)
      ∙ ap (λ (n : ℕ). option_map (λ m. m - now) (option_map (max n) (least_by (λ (m : ℕ). m)
      (moments (client_setup x) lc)))) client_now
      ∙ ap (wait_in now) client_due

  both_wait : (s : Stage) → Two x ls lc cs js s
      → least_wait s.nodes s.history ≡ least_of (wait_in now due_server ∷ wait_in now due_client ∷ [])
  both_wait s two =
      ap (λ (ns : List Node). least_of (over_nodes (wait_at s.history) 0 ns)) two.nodes
      ∙ ap (λ (o : Option ℕ). least_of
      (o ∷ wait_at s.history 1 (record { host = x.client; setup = client_setup x }) ∷ [])) (server_waits s two)
      ∙ ap (λ (o : Option ℕ). least_of (wait_in now due_server ∷ o ∷ [])) (client_waits s two)

  may : (wait : ℕ) (s : Stage) → Two x ls lc cs js s → wait ≤ 2000 → may_move wait s ≡ true
  may wait s two short =
      ap (λ (ns : List Node). not (list_any (λ m. nat_le (2 ^ 62) (m + wait))
      (over_nodes (λ k n. moment k s.history) 0 ns))) two.nodes
      ∙ ap (λ (n : ℕ). not (list_any (λ m. nat_le (2 ^ 62) (m + wait)) (n ∷ moment 1 s.history ∷ [])))
      (moment_server x ls lc cs js s two ∙ server_now)
      ∙ ap (λ (n : ℕ). not (list_any (λ m. nat_le (2 ^ 62) (m + wait)) (now ∷ n ∷ [])))
      (moment_client x ls lc cs js s two ∙ client_now)
      ∙ rw (lt-leb (2 ^ 62) (now + wait) (omega arith)) refl

  settles_by : (wait : ℕ) (s t : Stage) → Two x ls lc cs js s → least_wait s.nodes s.history ≡ Some wait
      → IsLeast now due_server due_client wait → Made (settles true) s t → Is true t
  settles_by zero s t two least is made =
      let same : now + 0 ≡ now = omega arith in
      stays true s t two (settles_still s t true least made)
      (λ quiet. subst (λ (n : ℕ). (m : ℕ) × InEither m due_server due_client × (m ≤ n)) same is.reached)
  settles_by (suc wait) s t two least is made =
      let short : now + suc wait ≤ max now soon = is.near soon (inr there) in
      let two1 = settles_moves x ls lc cs js wait s t two least (may (suc wait) s two (omega arith)) made in
      record {
        then_now = now + suc wait;
        from = omega arith;
        two =
            subst (λ (n : ℕ). Two x (at_moment n ls) (at_moment (now + suc wait) lc) cs js t)
            (ap (λ (n : ℕ). n + suc wait) server_now)
            (subst (λ (n : ℕ). Two x (later (suc wait) ls) (at_moment n lc) cs js t)
            (ap (λ (n : ℕ). n + suc wait) client_now) two1);
        still = λ loud. absurd cc;
        near = is.near;
        reached = λ quiet. is.reached;
      }

  pub settles_two : (quiet : Bool) (s t : Stage) → Two x ls lc cs js s → Made (settles quiet) s t → Is quiet t
  settles_two false s t two made = stays false s t two (settles_not s t false refl made) (λ quiet. absurd cc)
  settles_two true s t two made =
      let l = least_two now due_server due_client soon there in
      settles_by l.0 s t two (both_wait s two ∙ l.1) l.2 made

  -- where something is due already no clock moves
  pub stays_still : (quiet : Bool) (s t : Stage) → Two x ls lc cs js s → (m : ℕ) → InEither m due_server due_client
      → m ≤ now → Made (settles quiet) s t → t ≡ s
  stays_still quiet s t two m where_ low made =
      let l = least_two now due_server due_client soon there in
      let near : now + l.0 ≤ max now m = l.2.near m where_ in
      let none : l.0 ≡ 0 = omega arith in
      settles_still s t quiet (both_wait s two ∙ l.1 ∙ ap (λ (w : ℕ). Some w) none) made

-- ---- what is due at nodes with one call

ranks_map : (s : Setup) (k : CallRecord) (is : List CallItem)
    → map (λ (i : Item). i.rank) (map (item_of s k) is) ≡ map (λ (i : CallItem). i.rank) is
ranks_map s k [] = refl
ranks_map s k (i ∷ is) = ap (λ (ms : List ℕ). i.rank ∷ ms) (ranks_map s k is)

-- the moments of one end of a call: those of its items, and that of its death
abbrev pub end_moments : Bool → CallLooks → List ℕ
end_moments client k = map (λ (i : CallItem). i.rank) (call_items client k) ++ (k.heard + SILENCE_MS) ∷ []

pub client_moments : (x : Ends) (firsts : List CallName) (now used given : ℕ) (k : CallLooks)
    → nat_le SILENCE_MS (now - k.heard) ≡ false
    → moments (client_setup x) (node_of x (from_client x given used) firsts now lives.Calling k) ≡ end_moments true k
client_moments x firsts now used given k awake =
    let r : CallRecord = the_record x lives.Calling k in
    rw (number_itself x.client.addr, number_itself x.client.port, number_itself x.epoch, number_itself x.first)
    (rw awake
    (ap (λ (is : List Item). map (λ (i : Item). i.rank) is ++ (k.heard + SILENCE_MS) ∷ [])
    (append-nil (map (item_of (client_setup x) r) (call_items true k)))
    ∙ ap (λ (ms : List ℕ). ms ++ (k.heard + SILENCE_MS) ∷ []) (ranks_map (client_setup x) r (call_items true k))))

pub server_moments : (x : Ends) (firsts : List CallName) (now used given : ℕ) (life : Life) (k : CallLooks)
    → is_active life ≡ true → is_live life ≡ true → nat_le SILENCE_MS (now - k.heard) ≡ false
    → moments (server_setup x) (node_of x (from_server x given used) firsts now life k) ≡ end_moments false k
server_moments x firsts now used given life k active living awake =
    let r : CallRecord = the_record x life k in
    rw (number_itself x.client.addr, number_itself x.client.port, number_itself x.epoch, number_itself x.first)
    (rw (active, living, awake)
    (ap (λ (is : List Item). map (λ (i : Item). i.rank) is ++ (k.heard + SILENCE_MS) ∷ [])
    (append-nil (map (item_of (server_setup x) r) (call_items false k)))
    ∙ ap (λ (ms : List ℕ). ms ++ (k.heard + SILENCE_MS) ∷ []) (ranks_map (server_setup x) r (call_items false k))))

-- an item's rank is one of the moments
pub in_end : (client : Bool) (k : CallLooks) (i : CallItem) → In i (call_items client k)
    → In i.rank (end_moments client k)
in_end client k i there =
    in_front i.rank (map (λ (j : CallItem). j.rank) (call_items client k)) ((k.heard + SILENCE_MS) ∷ [])
    (in_map (λ (j : CallItem). j.rank) i (call_items client k) there)

-- the ping of a client is one of its moments
pub in_ping : (k : CallLooks) → In (k.spoke + PING_MS) (end_moments true k)
in_ping k =
    in_end true k (record { rank = k.spoke + PING_MS; sending = Ack ACK_PING 0 })
    (in_behind _ (piece_items k.rtt.rto k.cwnd k.sent) (ack_items k.owed_ack ++ ping_items true k.spoke)
    (in_behind _ (ack_items k.owed_ack) (ping_items true k.spoke) (inl refl)))
