-- Two rounds on end in which no number of either end moves: in the first no piece is given again, and so whatever is
-- given leaves less to be told.
use Rattle.std.proofs.Common.{◌≡◌, ◌≤◌, ◌⊎◌, ◌+◌, if◌then◌else◌, is_some, ℕ, Bool, true, false, List, [], ◌∷◌, Option}
use Rattle.std.proofs.Common.{Some, None, refl, ap, ◌∙◌, inl, inr, ⊎_elim, arith}
use Rattle.rx_model.specs.declared.wire.TheConstants.{PING_MS}
use Rattle.rx_rules.specs.CallItems.{Sending, Piece, Ack}
use Rattle.rx_rules.specs.CallLooks.{CallLooks}
use Rattle.rx_rules.specs.Owing.{Owed}
use Rattle.rx_rules.specs.Received.{used_of}
use Rattle.rx_rules.specs.Setup.{Setup, is_client}
use Rattle.rx_closing.proofs.Ends.BothEnds.{Ends, Round}
use Rattle.rx_closing.proofs.Ends.FrozenPolls.{has_ack, has_piece, has_ping, polls_owed, polls_owes, polls_ping}
use Rattle.rx_closing.proofs.Ends.FrozenPolls.{polls_quiet, polls_spoke, polls_told}
use Rattle.rx_closing.proofs.Ends.FrozenRound.{client_due, reply_half, request_half, server_due}

-- ---- what is given

-- a ping is an acknowledgement
pub ping_acks : (xs : List Sending) → has_ping xs ≡ true → has_ack xs ≡ true
ping_acks [] some = absurd cc
ping_acks (Piece seq again ∷ xs) some = ping_acks xs some
ping_acks (Ack reason serial ∷ xs) some = refl

-- what is neither a piece nor an acknowledgement is nothing
pub none_given : (xs : List Sending) → has_piece xs ≡ false → has_ack xs ≡ false → xs ≡ []
none_given [] no_piece no_ack = refl
none_given (Piece seq again ∷ xs) no_piece no_ack = absurd cc
none_given (Ack reason serial ∷ xs) no_piece no_ack = absurd cc

-- ---- what is left to be told

-- of an end that owes an acknowledgement
abbrev pub owes : Option Owed → ℕ
owes o = if is_some o then 700 else 0

-- of both
abbrev pub owing : Ends → ℕ
owing e = owes e.client.owed_ack + owes e.server.owed_ack

-- each end knows all that the other is done with
pub record Known (e : Ends) : Type 0 where
  pub request : e.client.sent.acked ≡ used_of e.server.received
  pub reply : e.server.sent.acked ≡ used_of e.client.received

owes-low : (o : Option Owed) → owes o ≤ 700
owes-low None = omega arith
owes-low (Some o) = omega arith

pub owing_low : (e : Ends) → owing e ≤ 1400
owing_low e =
    (let first = owes-low e.client.owed_ack in let second = owes-low e.server.owed_ack in omega (arith, first, second))

owes-some : (o : Option Owed) → is_some o ≡ true → owes o ≡ 700
owes-some None some = absurd cc
owes-some (Some o) some = refl

module _ (cs ss : Setup) (client : is_client cs.kind ≡ true) (server : is_client ss.kind ≡ false) (e f g : Ends)
    (r : Round cs ss e f) (q : Round cs ss f g) where
  -- no piece again: the end that took it tells in the next round what its sender didn't know
  pub no_request : has_piece r.passes.out_c ≡ false
  no_request = of (has_piece r.passes.out_c) refl
    where
      of : (b : Bool) → has_piece r.passes.out_c ≡ b → b ≡ false
      of false is = refl
      of true is =
          absurd (let half = request_half cs ss client server e f r in
          let less = half.less is in
          let told =
          (reply_half cs ss client server f g q).told (server_due cs ss client server f g q (half.piece is)) in
          let acked = r.client_stood.acked in
          let used = r.server_stood.used in
          omega (arith, less, told, acked, used))

  pub no_reply : has_piece r.passes.out_s ≡ false
  no_reply = of (has_piece r.passes.out_s) refl
    where
      of : (b : Bool) → has_piece r.passes.out_s ≡ b → b ≡ false
      of false is = refl
      of true is =
          absurd (let half = reply_half cs ss client server e f r in
          let less = half.less is in
          let told =
          (request_half cs ss client server f g q).told (client_due cs ss client server f g q (half.piece is)) in
          let acked = r.server_stood.acked in
          let used = r.client_stood.used in
          omega (arith, less, told, acked, used))

  -- a server doesn't ping
  no-ping : has_ping r.passes.out_s ≡ false
  no-ping = of (has_ping r.passes.out_s) refl
    where
      of : (b : Bool) → has_ping r.passes.out_s ≡ b → b ≡ false
      of false is = refl
      of true is =
          absurd (let pings = polls_ping ss e.server_now e.server r.passes.out_s r.passes.gave_s r.passes.ks1
          r.passes.gives_s r.server_fit.steady r.server_fit.plain is in
          let client_ = pings.0 in cc (client_, server))

  -- behind a ping each end knows all
  pub pinged : has_ping r.passes.out_c ≡ true → Known e
  pinged is =
      let half = request_half cs ss client server e f r in
      let told = (reply_half cs ss client server f g q).told (server_due cs ss client server f g q (half.ping is)) in
      let acked = r.client_stood.acked in
      let used = r.server_stood.used in
      record { request = omega (arith, told, acked, used); reply = half.told (ping_acks r.passes.out_c is) }

  -- what the client owes behind the round
  client-owed : f.client.owed_ack ≡ r.passes.kc1.owed_ack
  client-owed = (reply_half cs ss client server e f r).calm no_reply no-ping

  -- it owes less where it gave an acknowledgement that is no ping, and never more
  client-owes : owes f.client.owed_ack ≤ owes e.client.owed_ack
  client-owes = of (has_ack r.passes.out_c) refl
    where
      of : (b : Bool) → has_ack r.passes.out_c ≡ b → owes f.client.owed_ack ≤ owes e.client.owed_ack
      of true is =
          let none = ap owes (client-owed ∙ polls_told cs e.client_now e.client r.passes.out_c r.passes.gave_c
          r.passes.kc1 r.passes.gives_c r.client_fit.steady is) in
          omega (arith, none)
      of false is =
          let same = ap owes (client-owed ∙ polls_owed cs e.client_now e.client r.passes.out_c r.passes.gave_c
          r.passes.kc1 r.passes.gives_c is) in
          omega (arith, same)

  client-falls : has_ack r.passes.out_c ≡ true → has_ping r.passes.out_c ≡ false
      → owes f.client.owed_ack + 700 ≤ owes e.client.owed_ack
  client-falls is quiet =
      let none = ap owes (client-owed ∙ polls_told cs e.client_now e.client r.passes.out_c r.passes.gave_c r.passes.kc1
      r.passes.gives_c r.client_fit.steady is) in
      let some = owes-some e.client.owed_ack (polls_owes cs e.client_now e.client r.passes.out_c r.passes.gave_c
      r.passes.kc1 r.passes.gives_c r.client_fit.steady is quiet) in
      omega (arith, none, some)

  -- so does the server, where the client gave no ping
  server-owed : has_ping r.passes.out_c ≡ false → f.server.owed_ack ≡ r.passes.ks1.owed_ack
  server-owed quiet = (request_half cs ss client server e f r).calm no_request quiet

  server-owes : has_ping r.passes.out_c ≡ false → owes f.server.owed_ack ≤ owes e.server.owed_ack
  server-owes quiet = of (has_ack r.passes.out_s) refl
    where
      of : (b : Bool) → has_ack r.passes.out_s ≡ b → owes f.server.owed_ack ≤ owes e.server.owed_ack
      of true is =
          let none = ap owes (server-owed quiet ∙ polls_told ss e.server_now e.server r.passes.out_s r.passes.gave_s
          r.passes.ks1 r.passes.gives_s r.server_fit.steady is) in
          omega (arith, none)
      of false is =
          let same = ap owes (server-owed quiet ∙ polls_owed ss e.server_now e.server r.passes.out_s r.passes.gave_s
          r.passes.ks1 r.passes.gives_s is) in
          omega (arith, same)

  server-falls : has_ping r.passes.out_c ≡ false → has_ack r.passes.out_s ≡ true
      → owes f.server.owed_ack + 700 ≤ owes e.server.owed_ack
  server-falls quiet is =
      let none = ap owes (server-owed quiet ∙ polls_told ss e.server_now e.server r.passes.out_s r.passes.gave_s
      r.passes.ks1 r.passes.gives_s r.server_fit.steady is) in
      let some = owes-some e.server.owed_ack (polls_owes ss e.server_now e.server r.passes.out_s r.passes.gave_s
      r.passes.ks1 r.passes.gives_s r.server_fit.steady is no-ping) in
      omega (arith, none, some)

  -- where something was given, one of them gave an acknowledgement
  some-ack : (r.passes.out_c ≡ [] → r.passes.out_s ≡ [] → ⊥)
      → (has_ack r.passes.out_c ≡ true) ⊎ (has_ack r.passes.out_s ≡ true)
  some-ack gives = of (has_ack r.passes.out_c) (has_ack r.passes.out_s) refl refl
    where
      of : (a b : Bool) → has_ack r.passes.out_c ≡ a → has_ack r.passes.out_s ≡ b
          → (has_ack r.passes.out_c ≡ true) ⊎ (has_ack r.passes.out_s ≡ true)
      of true b first second = inl first
      of false true first second = inr second
      of false false first second =
          absurd (gives (none_given r.passes.out_c no_request first) (none_given r.passes.out_s no_reply second))

  -- where the client gave no ping, no more is owed than before, and less where something was given
  pub owes_no_more : has_ping r.passes.out_c ≡ false → owing f ≤ owing e
  owes_no_more quiet = (let client_ = client-owes in let server_ = server-owes quiet in omega (arith, client_, server_))

  pub owes_less : has_ping r.passes.out_c ≡ false → (r.passes.out_c ≡ [] → r.passes.out_s ≡ [] → ⊥)
      → owing f + 700 ≤ owing e
  owes_less quiet gives =
      ⊎_elim
      (λ (first : has_ack r.passes.out_c ≡ true).
      (let client_ = client-falls first quiet in let server_ = server-owes quiet in omega (arith, client_, server_)))
      (λ (second : has_ack r.passes.out_s ≡ true).
      (let client_ = client-owes in let server_ = server-falls quiet second in omega (arith, client_, server_)))
      (some-ack gives)

  -- a ping leaves the server's answer owed
  pub owes_more : owing f ≤ owing e + 700
  owes_more =
      (let client_ = client-owes in
      let top = owes-low f.server.owed_ack in
      omega (arith, client_, top))

  -- ---- when the client spoke

  -- as before, or now
  pub spoke_no_less : e.client.spoke ≤ f.client.spoke
  spoke_no_less = of (has_ack r.passes.out_c) refl
    where
      same : f.client.spoke ≡ r.passes.kc1.spoke
      same = (reply_half cs ss client server e f r).spoke

      of : (b : Bool) → has_ack r.passes.out_c ≡ b → e.client.spoke ≤ f.client.spoke
      of true is =
          (let now =
          polls_spoke cs e.client_now e.client r.passes.out_c r.passes.gave_c r.passes.kc1 r.passes.gives_c is in
          let before = r.client_fit.spoke in
          omega (arith, now, before, same))
      of false is =
          (let quiet = ap (λ (k : CallLooks). k.spoke)
          (polls_quiet cs e.client_now e.client r.passes.out_c r.passes.gave_c r.passes.kc1 r.passes.gives_c
          (none_given r.passes.out_c no_request is)) in
          omega (arith, quiet, same))

  -- a ping comes two seconds behind what it gave before
  pub pinged_late : has_ping r.passes.out_c ≡ true
      → (e.client.spoke + PING_MS ≤ e.client_now) × (f.client.spoke ≡ e.client_now)
  pinged_late is = (
    (polls_ping cs e.client_now e.client r.passes.out_c r.passes.gave_c r.passes.kc1 r.passes.gives_c
        r.client_fit.steady r.client_fit.plain is).1,
    (reply_half cs ss client server e f r).spoke
        ∙ polls_spoke cs e.client_now e.client r.passes.out_c r.passes.gave_c r.passes.kc1 r.passes.gives_c
        (ping_acks r.passes.out_c is),
  )
