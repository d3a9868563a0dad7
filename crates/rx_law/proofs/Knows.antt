-- What a server knows of a call behind each event, where no DATA of a call that was used long ago comes.
use Rattle.std.proofs.Common.{◌≡◌, ◌⊎◌, ◌<◌, ◌≤◌, ◌^◌, ℕ, if◌then◌else◌, nat_lt, is_some, true, false, List}
use Rattle.std.proofs.Common.{Option, None, Ok, refl, ◌∙◌, ap, sym, subst, inl, inr, arith}
use Rattle.std.proofs.lemmas.Bool.Decides.{nat_tests}
use Rattle.rx_model.specs.declared.answers.Took.{Took}
use Rattle.rx_model.specs.declared.answers.Took.TheVariants as tooks
use Rattle.rx_model.specs.declared.event.Event.{Event}
use Rattle.rx_model.specs.declared.event.Event.TheVariants as events
use Rattle.rx_model.specs.declared.names.CallName.{CallName}
use Rattle.rx_model.specs.declared.names.Host.{Host}
use Rattle.rx_rules.specs.After.{enters, prepared, taken_data, taken_with}
use Rattle.rx_model.specs.Body.{Body}
use Rattle.rx_model.specs.Body as bodies
use Rattle.rx_rules.specs.Judging.{opened, outer_row, took_reading}
use Rattle.rx_rules.specs.Looks.{CallRecord, Looks, call_at, channel_at, conn_at}
use Rattle.rx_model.specs.Message.{Message}
use Rattle.rx_model.specs.Names.{channel_of, connection_of, same_name}
use Rattle.rx_model.specs.Reading.{reading_of}
use Rattle.rx_rules.specs.Records.{started_later}
use Rattle.rx_rules.specs.Setup.{Setup, IsServer, named}
use Rattle.rx_rules.proofs.ConnsLaws.{channel_number, number_of}
use Rattle.rx_rules.proofs.KeepsLaws.{Keeps}
use Rattle.rx_model.proofs.NameLaws.{name_is}
use Rattle.rx_law.proofs.Asks.{asks-data, data-is, waits, waits-above}
use Rattle.rx_law.proofs.Enters.{above-prepared, recalls-prepared, young-prepared}
use Rattle.rx_history.proofs.Events.{call-by, calls-prepared}
use Rattle.rx_law.proofs.Firm.{Firm, Young}
use Rattle.rx_law.proofs.FirmAfter.{firm-data}
use Rattle.rx_law.proofs.Judges.{firm-with, keeps-with, recalls-started, starts, starts-enters, with-starts}
use Rattle.rx_law.proofs.Waits.{recalls-waits}
use Rattle.rx_history.proofs.Moments.{now-prepared}
use Rattle.rx_history.proofs.Numbers.{there-prepared}
use Rattle.rx_law.proofs.Recalls.{Recalls, lives-some, recalls-keeps}
use Rattle.rx_history.proofs.Laws.TakenLaws.{keeps-data}

-- DATA of the call came, and asked for it
pub record AskedFor (s : Setup) (l : Looks) (from : Host) (bytes : List ℕ) (got : Took) (c : CallName) : Type 0 where
  pub message : Message
  pub payload : List ℕ
  pub reads : reading_of bytes ≡ Ok message
  pub front : outer_row s s.kind l from message ≡ None
  pub named_is : named s from message ≡ c
  pub body : message.body ≡ bodies.Chunk payload
  pub answer : enters got ≡ true

-- with this event
abbrev pub AsksFor : Setup → Looks → Event → CallName → Type 0
AsksFor s l (events.Taken from bytes got) c = AskedFor s l from bytes got c
AsksFor s l _ c = ⊥

-- no DATA asks for a call that is there
abbrev pub AsksNew : Setup → Looks → Event → CallName → Type 0
AsksNew s l e c = AsksFor s l e c → nat_lt (channel_at l (channel_of c)).number c.number ≡ true → call_at l c ≡ None

-- ---- a message is judged

-- what the server knows behind a message
pub record Judged (s : Setup) (l m : Looks) (from : Host) (bytes : List ℕ) (got : Took) (c : CallName)
    (u : ℕ) : Type 0 where
  pub used : ℕ
  pub later : u ≤ used
  pub recalls : Recalls m c used
  pub begins : is_some (call_at m c) ≡ true → (is_some (call_at l c) ≡ true) ⊎
      ((used ≡ l.now) × AskedFor s l from bytes got c)

-- a change that starts no call
pub judged-keeps : (s : Setup) (l m : Looks) (from : Host) (bytes : List ℕ) (got : Took) (c : CallName) (u : ℕ)
    → Keeps c l m → Firm c l m
    → Recalls l c u → Judged s l m from bytes got c u
judged-keeps s l m from bytes got c u keeps firm old =
    record {
      used = u;
      later = omega arith;
      recalls = recalls-keeps c l m u keeps firm old;
      begins = λ is. inl (lives-some (call_at l c) (call_at m c) keeps.calls is);
    }

module _ (s : Setup) (l : Looks) (from : Host) (bytes : List ℕ) (got : Took) (m : Message) (c : CallName) (u : ℕ)
    (server : IsServer s.kind)
    (answer : got ≡ took_reading s l from (Ok m)) (reads : reading_of bytes ≡ Ok m)
    (front : outer_row s s.kind l from m ≡ None)
    (fits : m.number < 2 ^ 32) (new : AsksNew s l (events.Taken from bytes got) c) (old : Recalls l c u) where
  -- the call of the message
  abbrev pub d : CallName
  d = named s from m

  -- where it is judged
  abbrev pub ready : Looks
  ready = prepared s got (connection_of d) l

  same-calls : call_at ready c ≡ call_at l c
  same-calls = call-by c l ready (calls-prepared s got (connection_of d) l)

  known : Recalls ready c u
  known = recalls-prepared c s got (connection_of d) l u old

  -- DATA that is judged above its channel's number asks for its call
  pub asked : d ≡ c → enters got ≡ true → nat_lt (channel_at l (channel_of c)).number c.number ≡ true
      → AskedFor s l from bytes got c
  asked is enter above =
      let mine : nat_lt (channel_at l (channel_of d)).number d.number ≡ true =
      subst (λ (n : CallName). nat_lt (channel_at l (channel_of n)).number n.number ≡ true) (sym is) above in
      let chunk = data-is m.body (asks-data s l from m got server answer front enter mine) in
      record {
        message = m;
        payload = chunk.0;
        reads = reads;
        front = front;
        named_is = is;
        body =
            chunk.1;
        answer = enter;
      }

  -- above the channel's number where it is judged, it was so before
  pub above-before : d ≡ c → nat_lt (channel_at ready (channel_of c)).number c.number ≡ true
      → nat_lt (channel_at l (channel_of c)).number c.number ≡ true
  above-before is above =
      let rises : number_of (conn_at l (connection_of c)) c.chan ≤ number_of (conn_at ready (connection_of c)) c.chan =
      subst (λ (n : CallName). number_of (conn_at l (connection_of n)) n.chan ≤ number_of
      (conn_at ready (connection_of n)) n.chan) is
      (above-prepared s got (connection_of d) l d.chan) in
      let here = channel_number ready (channel_of c) in
      let there = channel_number l (channel_of c) in
      lower (channel_at l (channel_of c)).number (channel_at ready (channel_of c)).number c.number (omega arith) above
    where
      lower : (a b n : ℕ) → a ≤ b → nat_lt b n ≡ true → nat_lt a n ≡ true
      lower a b n low is = grind (arith, nat_tests)

  same-begins : (n : Looks) → (is_some (call_at n c) ≡ true → is_some (call_at ready c) ≡ true) → is_some (call_at n c)
      ≡ true
      → (is_some (call_at l c) ≡ true) ⊎ ((u ≡ l.now) × AskedFor s l from bytes got c)
  same-begins n keeps is = inl (ap (λ (o : Option CallRecord). is_some o) (sym same-calls) ∙ keeps is)

  -- an answer by which the call doesn't start
  plain : (starts got ≡ true → same_name c d ≡ false) → waits got ≡ false
      → Judged s l (taken_with s got d m ready) from bytes got c u
  plain other rests =
      let keeps = keeps-with s got c d m ready other rests in
      record {
        used = u;
        later = omega arith;
        recalls = recalls-keeps c ready (taken_with s got d m ready) u keeps (firm-with s got c d m ready rests) known;
        begins = same-begins (taken_with s got d m ready) (lives-some (call_at ready c)
            (call_at (taken_with s got d m ready) c) keeps.calls);
      }

  -- an answer that tells to wait
  waiting : waits got ≡ true → Judged s l (taken_with s got d m ready) from bytes got c u
  waiting waits' =
      let w = recalls-waits s got c d m ready u waits' fits (λ is. same-calls ∙ none is) known in
      record { used = u; later = omega arith; recalls = w.0; begins = same-begins (taken_with s got d m ready) w.1 }
    where
      enter : (got : Took) → waits got ≡ true → enters got ≡ true
      enter tooks.Busy is = refl
      enter tooks.NoRoom is = refl
      enter _ is = absurd cc

      none : d ≡ c → call_at l c ≡ None
      none is =
          let above : nat_lt (channel_at l (channel_of c)).number c.number ≡ true =
          subst (λ (n : CallName). nat_lt (channel_at l (channel_of n)).number n.number ≡ true) is
          (waits-above s l from m got server answer front waits') in
          new (asked is (enter got waits') above) above

  -- its own packet, which may start it
  own : d ≡ c → starts got ≡ true → enters got ≡ true → Judged s l
      (taken_data s got c m (opened s c ready)) from bytes got c u
  own is start enter =
      (elim (nat_lt (channel_at ready (channel_of c)).number c.number) as
      (λ b. nat_lt (channel_at ready (channel_of c)).number c.number ≡ b
      → Judged s l (taken_data s got c m (if b then started_later s c ready else ready)) from bytes got c u) [
        | true ↦ λ above. (
            let before = above-before is above in
            let there = subst (λ (n : CallName). is_some (conn_at ready (connection_of n)) ≡ true) is
            (there-prepared s got (connection_of d) l (inl server) enter) in
            let young = subst (λ (n : CallName). Young (connection_of n) ready.now ready.conns) is
            (young-prepared s got (connection_of d) l) in
            let chan : c.chan < 4 = subst (λ (n : CallName). n.chan < 4) is (omega arith) in
            let begun : Recalls (started_later s c ready) c ready.now =
            recalls-started s c ready u there chan young known in
            let keeps = keeps-data s got c c m (started_later s c ready) in
            let same = now-prepared s got (connection_of d) l in
            let low = old.before in
            record {
              used = ready.now;
              later = omega arith;
              recalls =
                  recalls-keeps c (started_later s c ready) (taken_data s got c m
                  (started_later s c ready)) ready.now keeps
                  (firm-data s got c c m (started_later s c ready)) begun;
              begins = λ there'. inr (same, asked is enter before);
            })
        | false ↦ λ below. (
            let keeps = keeps-data s got c c m ready in
            record {
              used = u;
              later = omega arith;
              recalls = recalls-keeps c ready (taken_data s got c m ready) u keeps (firm-data s got c c m ready) known;
              begins = same-begins (taken_data s got c m ready)
                  (lives-some (call_at ready c) (call_at (taken_data s got c m ready) c) keeps.calls);
            })
      ]) refl

  -- by the answer
  pub judged-with : Judged s l (taken_with s got d m ready) from bytes got c u
  judged-with =
      (elim (waits got) as (λ b. waits got ≡ b → Judged s l (taken_with s got d m ready) from bytes got c u) [
        | true ↦ λ waits'. waiting waits'
        | false ↦ λ rests.
            (elim (starts got) as (λ b. starts got ≡ b → Judged s l (taken_with s got d m ready) from bytes got c u) [
              | true ↦ λ start.
                  (elim (same_name c d) as (λ b. same_name c d ≡ b
                  → Judged s l (taken_with s got d m ready) from bytes got c u) [
                    | true ↦ λ same. (
                        let is : c ≡ d = name_is c d same in
                        subst (λ (n : Looks). Judged s l n from bytes got c u)
                        (ap (λ (n : CallName). taken_data s got n m (opened s n ready)) is
                        ∙ sym (with-starts s got d m ready start))
                        (own (sym is) start (starts-enters got start)))
                    | false ↦ λ other. plain (λ start. other) rests
                  ]) refl
              | false ↦ λ none. plain (λ start. absurd (cc (start, none))) rests
            ]) refl
      ]) refl
