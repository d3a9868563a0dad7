-- The two ends of a call agree along any joint history of its connection whose server starts no call anew.
use Rattle.std.proofs.Common.{◌≡◌, ◌+◌, ℕ, is_some, true, false, List, [], ◌∷◌, Option, Some, None, refl, ◌∙◌, ap}
use Rattle.std.proofs.Common.{sym, subst, arith, ◌≤◌, nat_lt, inl, inr}
use Rattle.rx_model.specs.declared.answers.Took.{Took}
use Rattle.rx_model.specs.declared.answers.Took.TheVariants as tooks
use Rattle.rx_model.specs.declared.event.Event.{Event}
use Rattle.rx_model.specs.declared.event.Noted.{Noted}
use Rattle.rx_model.specs.declared.names.CallName.{CallName}
use Rattle.rx_model.specs.declared.names.Host.{Host}
use Rattle.rx_model.specs.Body.{AckBody, Body}
use Rattle.rx_model.specs.Body as bodies
use Rattle.rx_model.specs.Message.{Message}
use Rattle.rx_model.specs.Names.{Channel, channel_of, connection_of}
use Rattle.rx_rules.specs.After.{looks}
use Rattle.rx_rules.specs.CallLooks.{is_delivered}
use Rattle.rx_rules.specs.Life.{Life}
use Rattle.rx_rules.specs.Life as lives
use Rattle.rx_rules.specs.Looks.{CallRecord, call_at, channel_at}
use Rattle.rx_rules.specs.Received.{Packet, used_of}
use Rattle.rx_rules.specs.Rules.{AllowedServer, Legal}
use Rattle.rx_rules.specs.Setup.{Setup, Client, FitsSetup, IsServer, named, receiving_window}
use Rattle.rx_history.specs.Sides.{side}
use Rattle.rx_history.specs.Starts.{StartsOnce}
use Rattle.rx_law.specs.Worlds.{Gave, TwoEnds}
use Rattle.rx_history.proofs.ClientHistory.{client-calls}
use Rattle.rx_history.proofs.Ends.{ends_of}
use Rattle.rx_law.proofs.Fronts.{ArePieces}
use Rattle.rx_law.proofs.Joint.{Fed}
use Rattle.rx_history.proofs.Laws.OnceLaw.{served}
use Rattle.rx_between.specs.Acknowledged.{BothTrue, received_by, sent_by}
use Rattle.rx_between.specs.Agreed.{Agrees, AreGiven, HasEnded, IsLetBy, IsOverWell, IsWithin, is_over_well}
use Rattle.rx_between.proofs.Along.{Stands, ToClient, ToServer, along}
use Rattle.rx_between.proofs.BothTrue.{came-of, client-step, name-back, name-there, nothing-true, server-step, kept-is}
use Rattle.rx_between.proofs.CameAll.{CameAll}
use Rattle.rx_between.proofs.Each.EachEvent.{each_step}
use Rattle.rx_between.proofs.Each.EachStep.{CallStep, IsFollowedBy, Judges, Starts, is_own, is_start}
use Rattle.rx_between.proofs.Followed.{earlier_ended, followed_data, gave_there, later_on, some_stays, starts_data}
use Rattle.rx_between.proofs.GivenAcks.{given_acks}
use Rattle.rx_between.proofs.GivenSeqs.{OnlyGives, given_seqs, given_step, kept_given}
use Rattle.rx_between.proofs.Histories.{StepOf, client_only_grows, client_onward, server_only_grows, server_onward}
use Rattle.rx_between.proofs.Histories.{grown_step}
use Rattle.rx_between.proofs.Lives.{OverBy, by_acks, by_later, over_by, was_over}
use Rattle.rx_between.proofs.Onward.{client_anew, no-opening}
use Rattle.rx_between.proofs.Onward as onward
use Rattle.rx_between.proofs.Prepared.{prepared_number}
use Rattle.rx_between.proofs.ReadOut.{AreClients, EndsRead, clients_step, end_prompt, ended_stays, ends_read}
use Rattle.rx_between.proofs.WholeAcked.{acked_ended, delivered_acked}
use Rattle.rx_between.proofs.Within.{within_step}
use Rattle.rx_between.proofs.Windows.{TellsWindow, fresh_let, let_step}

-- ---- what an end only does more of

pub client_only_gives : (s : Setup) (host : Host) (epoch : ℕ) (h : List Event) (c : CallName)
    → s.kind ≡ Client host epoch
    → FitsSetup s → Legal s h → OnlyGives s c h
client_only_gives s host epoch [] c kind fits legal = tt
client_only_gives s host epoch (e ∷ h) c kind fits legal = (
  given_step s e h c (client_onward s host epoch e h c kind fits legal),
  client_only_gives s host epoch h c kind fits legal.1,
)

pub server_only_gives : (s : Setup) (h : List Event) (c : CallName) → IsServer s.kind → FitsSetup s → Legal s h
    → StartsOnce s h c → OnlyGives s c h
server_only_gives s [] c server fits legal once = tt
server_only_gives s (e ∷ h) c server fits legal once = (
  given_step s e h c (server_onward s e h c server fits legal once),
  server_only_gives s h c server fits legal.1 once.1,
)

-- an end's node is prompt or isn't, whether the call has a record or none
abbrev PromptIs : Setup → ℕ → Option CallRecord → Type 0
PromptIs s now o = (onward.end_by s now o).cwnd.prompt ≡ s.prompt

prompt_any : (s : Setup) (now then_ : ℕ) (o : Option CallRecord) → PromptIs s now o → PromptIs s then_ o
prompt_any s now then_ None is = refl
prompt_any s now then_ (Some k) is = is

-- what an ACK of the other end tells of its window
tells : (peer : Setup) (body : Body) → ((a : AckBody) → body ≡ bodies.Ack a → a.window ≡ Some (receiving_window peer))
    → TellsWindow peer body
tells peer (bodies.Ack a) told = told a refl
tells peer _ told = tt

-- what both windows let a sender give
window_lets : (a b : Option CallRecord) (peer : Setup) → (sent_by a).acked ≤ used_of (received_by b)
    → IsLetBy peer (sent_by a)
    → (sent_by a).acked + (sent_by a).peer_window ≤ used_of (received_by b) + receiving_window peer
window_lets a b peer hard lets = omega (arith, hard, lets)

-- ---- along a joint history

module _ (x : TwoEnds) (c : CallName) where
  abbrev at_c : List Event → Option CallRecord
  at_c cl = call_at (looks x.client_setup cl) c

  abbrev at_s : List Event → Option CallRecord
  at_s sv = call_at (looks x.server_setup sv) c

  -- the ends agree, and what that rests on
  record Agreeing (cl sv : List Event) : Type 0 where
    both : BothTrue (at_c cl) (at_s sv)
    request_given : AreGiven (sent_by (at_c cl)) (received_by (at_s sv))
    reply_given : AreGiven (sent_by (at_s sv)) (received_by (at_c cl))
    request_let : IsLetBy x.server_setup (sent_by (at_c cl))
    reply_let : IsLetBy x.client_setup (sent_by (at_s sv))
    request_within : IsWithin x.server_setup (sent_by (at_c cl)) (received_by (at_s sv))
    reply_within : IsWithin x.client_setup (sent_by (at_s sv)) (received_by (at_c cl))
    known : is_some (at_s sv) ≡ true → is_some (at_c cl) ≡ true
    clients : AreClients (at_c cl)
    read_out : EndsRead (at_c cl)
    prompt : PromptIs x.server_setup 0 (at_s sv)
    over : x.server_setup.prompt ≡ false → IsOverWell (at_s sv) → HasEnded (at_c cl)

  module _ (cl sv : List Event) (e : Event) (st : Stands x c cl sv) where
    server_gives : OnlyGives x.server_setup c sv
    server_gives = server_only_gives x.server_setup sv c st.server_kind st.server_fits st.served st.once

    client_gives : OnlyGives x.client_setup c cl
    client_gives =
        client_only_gives x.client_setup x.connection.host x.connection.epoch cl c st.client_kind st.client_fits
        st.called

    -- ---- an event of the client

    module _ (new : Stands x c (e ∷ cl) sv) (came : ToClient x cl sv e) where
      client_gave : (m : Message) (got : Took) → is_own got ≡ true
          → (j : Judges x.client_setup (looks x.client_setup cl) e c m got) → Gave x.connection.host j.bytes sv
      client_gave m got own j =
          came-of x.client_setup (looks x.client_setup cl) x.connection e c
          (λ bytes. Gave x.connection.host bytes sv) came st.on m got own j

      client_name : (from : Host) (m : Message) → named x.client_setup from m ≡ c
          → named x.server_setup x.connection.host m ≡ c
      client_name = name-back x st.client_kind st.server_kind st.client_fits st.server_fits c st.on

      client_steps : StepOf x.client_setup e cl c
      client_steps =
          client_onward x.client_setup x.connection.host x.connection.epoch e cl c st.client_kind st.client_fits
          new.called

      client_tells : (m : Message) (got : Took) → is_own got ≡ true
          → Judges x.client_setup (looks x.client_setup cl) e c m got → TellsWindow x.server_setup m.body
      client_tells m got own j =
          tells x.server_setup m.body
          (λ a is. (given_acks x.server_setup sv c x.connection.host j.bytes m a st.server_fits st.served
          (server_only_grows x.server_setup sv c st.server_kind st.server_fits st.served st.once) j.reads is
          (client_name j.from m j.name) (client_gave m got own j)).is.window)

      starts_calling : (b : CallRecord) → Starts x.client_setup (looks x.client_setup cl) e c b
          → b.life ≡ lives.Calling
      starts_calling b (name, inl opens) =
          absurd (no-opening x.client_setup x.connection.host x.connection.epoch e cl c b st.client_kind new.called
          opens)
      starts_calling b (name, inr made) = made.life

      anew : (b : CallRecord) → Starts x.client_setup (looks x.client_setup cl) e c b → at_c cl ≡ None
      anew =
          client_anew x.client_setup x.connection.host x.connection.epoch e cl c st.client_kind st.client_fits
          new.called
          (client-calls x.client_setup x.connection.host x.connection.epoch cl st.client_kind st.client_fits st.called)

      by_client : Agreeing cl sv → Agreeing (e ∷ cl) sv
      by_client old =
          record {
            both =
                client-step x st.client_kind st.server_kind st.client_fits st.server_fits c st.on cl sv st.called
                st.served
                st.once st.both e new.called came old.both;
            request_given =
                (let low = old.request_given in
                let more = given_step x.client_setup e cl c client_steps in
                omega arith);
            reply_given =
                kept_given x.client_setup e cl c (sent_by (at_s sv)) client_steps
                (λ m payload chunk j.
                given_seqs x.server_setup sv c x.connection.host j.bytes m payload st.server_fits st.served server_gives
                j.reads chunk (client_name j.from m j.name) (client_gave m tooks.Kept refl j)) old.reply_given;
            request_let =
                let_step x.server_setup st.server_fits x.client_setup e cl c client_steps client_tells old.request_let;
            reply_let = old.reply_let;
            request_within =
                within_step x.client_setup e cl c (used_of (received_by (at_s sv)) + receiving_window x.server_setup)
                client_steps old.request_within (window_lets (at_c cl) (at_s sv) x.server_setup old.both.request.hard
                old.request_let);
            reply_within =
                (let low = old.reply_within in
                let grows = (grown_step x.client_setup e cl c client_steps).used in
                omega arith);
            known = λ there.
                some_stays x.client_setup cl e c st.client_fits new.called (old.known there);
            clients = clients_step x.client_setup cl e c st.client_fits new.called starts_calling old.clients;
            read_out =
                ends_read x.client_setup cl e c st.client_fits new.called anew client_steps old.clients old.read_out;
            prompt = old.prompt;
            over = λ plain is.
                ended_stays x.client_setup cl e c st.client_fits new.called anew (old.over plain is);
          }

    -- ---- an event of the server

    module _ (new : Stands x c cl (e ∷ sv)) (came : ToServer x cl sv e) where
      server_gave : (d : CallName) (m : Message) (got : Took) → connection_of d ≡ x.connection → is_own got ≡ true
          → (j : Judges x.server_setup (looks x.server_setup sv) e d m got) → Gave x.server_host j.bytes cl
      server_gave d m got on own j =
          came-of x.server_setup (looks x.server_setup sv) x.connection e d (λ bytes. Gave x.server_host bytes cl) came
          on m got own j

      server_name : (d : CallName) → connection_of d ≡ x.connection → (from : Host) (m : Message)
          → named x.server_setup from m ≡ d → named x.client_setup x.server_host m ≡ d
      server_name d on = name-there x st.client_kind st.server_kind st.client_fits st.server_fits d on

      server_steps : StepOf x.server_setup e sv c
      server_steps = server_onward x.server_setup e sv c st.server_kind st.server_fits new.served new.once

      server_tells : (m : Message) (got : Took) → is_own got ≡ true
          → Judges x.server_setup (looks x.server_setup sv) e c m got → TellsWindow x.client_setup m.body
      server_tells m got own j =
          tells x.client_setup m.body
          (λ a is. (given_acks x.client_setup cl c x.server_host j.bytes m a st.client_fits st.called
          (client_only_grows x.client_setup x.connection.host x.connection.epoch cl c st.client_kind st.client_fits
          st.called) j.reads is (server_name c st.on j.from m j.name) (server_gave c m got st.on own j)).is.window)

      -- a call that it starts, or that follows one, is there at the client
      data_known : (d : CallName) (m : Message) (got : Took) → connection_of d ≡ x.connection → is_own got ≡ true
          → Judges x.server_setup (looks x.server_setup sv) e d m got
          → (payload : List ℕ) × (m.body ≡ bodies.Chunk payload)
          → is_some (call_at (looks x.client_setup cl) d) ≡ true
      data_known d m got on own j chunk =
          subst (λ (n : CallName). is_some (call_at (looks x.client_setup cl) n) ≡ true)
          (server_name d on j.from m j.name)
          (gave_there x.client_setup cl x.server_host j.bytes m chunk.0 st.client_fits st.called j.reads chunk.1
          (server_gave d m got on own j))

      start_own : (got : Took) → is_start got ≡ true → is_own got ≡ true
      start_own tooks.Kept is = refl
      start_own tooks.NoSlot is = refl
      start_own _ is = absurd cc

      opened_known : (b : CallRecord) → Starts x.server_setup (looks x.server_setup sv) e c b
          → is_some (at_c cl) ≡ true
      opened_known b (name, inr made) =
          absurd (subst (λ (y : Event). AllowedServer x.server_setup (looks x.server_setup sv) y) made.event
          (served x.server_setup.kind x.server_setup (looks x.server_setup sv) e st.server_kind new.served.0))
      opened_known b (name, inl opens) =
          (let t = opens.takes in
          let above : nat_lt (channel_at (looks x.server_setup sv) (channel_of c)).number c.number ≡ true =
          ap (λ (n : ℕ). nat_lt n c.number)
          (sym (prepared_number x.server_setup t.got (looks x.server_setup sv) (channel_of c))) ∙ opens.above in
          data_known c t.message t.got st.on t.own t.judges
          (starts_data x.server_setup sv e c t.message t.got new.served t.judges opens.starts above))

      known_behind : Agreeing cl sv → (o p : Option CallRecord) → at_s sv ≡ o
          → CallStep x.server_setup (looks x.server_setup sv) e c o p → is_some p ≡ true → is_some (at_c cl) ≡ true
      known_behind old None None was step there = absurd cc
      known_behind old None (Some b) was step there = opened_known b step
      known_behind old (Some a) None was step there = absurd step
      known_behind old (Some a) (Some b) was step there =
          old.known (ap (λ (o : Option CallRecord). is_some o) was)

      starts_apart : (b : CallRecord) → Starts x.server_setup (looks x.server_setup sv) e c b → is_over_well b.life → ⊥
      starts_apart b (name, inl opens) over = subst is_over_well opens.life over
      starts_apart b (name, inr made) over = subst is_over_well made.life over

      both_behind : Agreeing cl sv → BothTrue (at_c cl) (at_s (e ∷ sv))
      both_behind old =
          server-step x st.client_kind st.server_kind st.client_fits st.server_fits c st.on cl sv st.called st.served
          st.once st.both e new.served new.once came old.both

      prompt_behind : Agreeing cl sv → PromptIs x.server_setup 0 (at_s (e ∷ sv))
      prompt_behind old =
          (let now : ℕ = (looks x.server_setup sv).now in
          prompt_any x.server_setup now 0 (at_s (e ∷ sv))
          (end_prompt x.server_setup (looks x.server_setup sv) e c (onward.end_by x.server_setup now (at_s sv))
          (onward.end_by x.server_setup now (at_s (e ∷ sv))) server_steps
          ∙ prompt_any x.server_setup 0 now (at_s sv) old.prompt))

      -- the whole reply is acknowledged: the client read it to its end
      acked_over : Agreeing cl sv → (b : CallRecord) → at_s (e ∷ sv) ≡ Some b → b.looks.cwnd.prompt ≡ false
          → is_delivered b.looks ≡ true → HasEnded (at_c cl)
      acked_over old b is plain delivered =
          (let all = delivered_acked b.looks plain delivered in
          let hard : b.looks.sent.acked ≤ used_of (received_by (at_c cl)) =
          subst (λ (o : Option CallRecord). (sent_by o).acked ≤ used_of (received_by (at_c cl))) is
          (both_behind old).reply.hard in
          let carried : ArePieces b.looks.sent.said b.looks.sent.shut (ends_of (at_c cl)).kept =
          subst (λ (o : Option CallRecord). ArePieces (ends_of o).said (ends_of o).shut (ends_of (at_c cl)).kept) is
          new.both.reply.pieces in
          let pieces : ArePieces b.looks.sent.said b.looks.sent.shut (received_by (at_c cl)).kept =
          subst (λ (ps : List Packet). ArePieces b.looks.sent.said b.looks.sent.shut ps) (kept-is (at_c cl))
          carried in
          old.read_out (acked_ended b.looks.sent (received_by (at_c cl)) pieces all.0 all.1 hard))

      -- a later call follows: the client's had ended
      followed_over : Agreeing cl sv → is_some (at_s sv) ≡ true
          → IsFollowedBy x.server_setup (looks x.server_setup sv) e c → HasEnded (at_c cl)
      followed_over old there f =
          (let same = later_on x.server_setup (looks x.server_setup sv) e c f in
          let on : connection_of f.later ≡ x.connection = sym (ap (λ (ch : Channel). ch.connection) same) ∙ st.on in
          let known = data_known f.later f.message f.got on (start_own f.got f.starts) f.judges
          (followed_data x.server_setup sv e c f new.served) in
          earlier_ended x.client_setup x.connection.host x.connection.epoch st.client_kind st.client_fits cl c f.later
          st.called old.clients (old.known there) known (sym same) f.above)

      over_behind : Agreeing cl sv → x.server_setup.prompt ≡ false → (o p : Option CallRecord) → at_s sv ≡ o
          → at_s (e ∷ sv) ≡ p → CallStep x.server_setup (looks x.server_setup sv) e c o p → IsOverWell p
          → HasEnded (at_c cl)
      over_behind old plain None None was is step over = absurd over
      over_behind old plain None (Some b) was is step over = absurd (starts_apart b step over)
      over_behind old plain (Some a) None was is step over = absurd step
      over_behind old plain (Some a) (Some b) was is (inr starts) over = absurd (starts_apart b starts over)
      over_behind old plain (Some a) (Some b) was is (inl goes) over =
          by (over_by x.server_setup (looks x.server_setup sv) e c b.looks a.life b.life goes.life over)
        where
          prompt_b : b.looks.cwnd.prompt ≡ x.server_setup.prompt
          prompt_b = subst (λ (o : Option CallRecord). PromptIs x.server_setup 0 o) is (prompt_behind old)

          by : OverBy x.server_setup (looks x.server_setup sv) e c b.looks a.life → HasEnded (at_c cl)
          by (was_over before) = old.over plain (subst IsOverWell (sym was) before)
          by (by_later f) = followed_over old (ap (λ (o : Option CallRecord). is_some o) was) f
          by (by_acks m judges delivered) = acked_over old b is (prompt_b ∙ plain) delivered

      by_server : Agreeing cl sv → Agreeing cl (e ∷ sv)
      by_server old =
          (let step = each_step x.server_setup sv e c st.server_fits new.served in
          record {
            both = both_behind old;
            request_given =
                kept_given x.server_setup e sv c (sent_by (at_c cl)) server_steps
                (λ m payload chunk j.
                given_seqs x.client_setup cl c x.server_host j.bytes m payload st.client_fits st.called client_gives
                j.reads chunk (server_name c st.on j.from m j.name) (server_gave c m tooks.Kept st.on refl j))
                old.request_given;
            reply_given =
                (let low = old.reply_given in
                let more = given_step x.server_setup e sv c server_steps in
                omega arith);
            request_let = old.request_let;
            reply_let =
                let_step x.client_setup st.client_fits x.server_setup e sv c server_steps server_tells old.reply_let;
            request_within =
                (let low = old.request_within in
                let grows = (grown_step x.server_setup e sv c server_steps).used in
                omega arith);
            reply_within =
                within_step x.server_setup e sv c (used_of (received_by (at_c cl)) + receiving_window x.client_setup)
                server_steps old.reply_within (window_lets (at_s sv) (at_c cl) x.client_setup old.both.reply.hard
                old.reply_let);
            known = known_behind old (at_s sv) (at_s (e ∷ sv)) refl step;
            clients = old.clients;
            read_out = old.read_out;
            prompt = prompt_behind old;
            over = λ plain. over_behind old plain (at_s sv) (at_s (e ∷ sv)) refl refl step;
          })

  none_ended : EndsRead None
  none_ended is = absurd cc

  none_agrees : FitsSetup x.client_setup → FitsSetup x.server_setup → Agreeing [] []
  none_agrees client_fits server_fits =
      record {
        both = record { request = nothing-true; reply = nothing-true };
        request_given = omega arith;
        reply_given = omega arith;
        request_let = fresh_let x.server_setup server_fits;
        reply_let = fresh_let x.client_setup client_fits;
        request_within = omega arith;
        reply_within = omega arith;
        known = λ there. absurd cc;
        clients = tt;
        read_out = none_ended;
        prompt = refl;
        over = λ plain is. absurd is;
      }

  -- at every moment
  pub all_agree : (h : List Noted) → Fed x h → CameAll x h → connection_of c ≡ x.connection
      → Agrees x.client_setup x.server_setup (at_c (side x.client h)) (at_s (side x.server h))
  all_agree h f came on =
      (let a = along x c Agreeing (none_agrees f.client_fits f.server_fits)
      (λ cl sv e st new came old. by_client cl sv e st new came old)
      (λ cl sv e st new came old. by_server cl sv e st new came old) on h f came in
      record {
        request_true = a.both.request;
        reply_true = a.both.reply;
        request_given = a.request_given;
        reply_given = a.reply_given;
        request_let = a.request_let;
        reply_let = a.reply_let;
        request_within = a.request_within;
        reply_within = a.reply_within;
        known = a.known;
        read_out = a.read_out;
        over = a.over;
      })
