-- The rows of a message that its connection or its channel answers.
use Rattle.std.proofs.Common.{◌≡◌, ◌⊎◌, ◌&&◌, ◌==◌, ℕ, if◌then◌else◌, not, nat_lt, is_some, Bool, true, false}
use Rattle.std.proofs.Common.{Option}
use Rattle.std.proofs.Common.{refl, ◌∙◌, ap, sym, subst, inl, arith}
use Rattle.std.proofs.lemmas.Bool.Decides.{nat_tests}
use Rattle.rx_model.specs.declared.answers.Took.{Took}
use Rattle.rx_model.specs.declared.answers.Took.TheVariants as tooks
use Rattle.rx_model.specs.declared.names.CallName.{CallName}
use Rattle.rx_model.specs.Body.{Body}
use Rattle.rx_model.specs.Body as bodies
use Rattle.rx_model.specs.Message.{Message}
use Rattle.rx_model.specs.Names.{channel_of, connection_of}
use Rattle.rx_model.specs.Strays.{is_stray}
use Rattle.rx_model.proofs.NameLaws.{both}
use Rattle.rx_rules.specs.Judging.{Facts, facts_of, is_data, opened, own_row, server_row, side_row, took_named}
use Rattle.rx_rules.specs.Looks.{ConnLooks, Looks, channel_at, conn_at}
use Rattle.rx_rules.specs.Setup.{Kind, Setup, Server, Client, IsServer}
use Rattle.rx_rules.proofs.ConnsLaws.{channel_number, number_of}
use Rattle.rx_history.proofs.Places.{is_none}
use Rattle.rx_server.proofs.RowLaws.{early, row_full, row_placed}

-- ---- a row that is the same whatever the call answers

-- what such a row says of a message, or that it is none of these
abbrev pub Says : Facts → Took → Type 0
Says f tooks.Strange = Unit {0}
Says f tooks.Stopped = f.stops_all ≡ true
Says f tooks.Old = Unit {0}
Says f tooks.Busy = Unit {0}
Says f tooks.NoRoom = Unit {0}
Says f tooks.Over = (f.is_below ≡ false) × (f.is_above ≡ false)
Says f _ = ⊥

-- no row is two
two-rows : (row : Took) → tooks.Full ≡ row → tooks.Strange ≡ row → ⊥
two-rows row full strange = (let both : tooks.Full ≡ tooks.Strange = full ∙ sym strange in cc (both))

-- one row at a time: where it holds it is the answer, else those behind it are
step : (b : Bool) (own rest rest' row : Took) (P : Type 0) → (b ≡ true → own ≡ row → P)
    → (b ≡ false → rest ≡ row → rest' ≡ row → P)
    → (if b then own else rest) ≡ row → (if b then own else rest') ≡ row → P
step true own rest rest' row P here behind is is' = here refl is
step false own rest rest' row P here behind is is' = behind refl is is'

pub row_says : (f : Facts) (row : Took) → ((call : Took) → server_row (early f) call ≡ row) → Says f row
row_says f row rows =
    step (not f.is_known && not (f.can_start && f.has_number)) tooks.Strange _ _ row (Says f row)
    (λ b is. subst (Says f) is tt)
    (λ known p q. placed f.is_known _ _ p q
    (λ p q. step f.stops_all tooks.Stopped _ _ row (Says f row) (λ b is. subst (Says f) is b)
    (λ b p q. step (not f.has_number) tooks.Strange _ _ row (Says f row) (λ b is. subst (Says f) is tt)
    (λ b p q. step f.is_below tooks.Old _ _ row (Says f row) (λ b is. subst (Says f) is tt)
    (λ below p q. step (f.is_above && not f.can_start) tooks.Strange _ _ row (Says f row) (λ b is. subst (Says f) is tt)
    (λ b p q. step (f.is_above && f.is_handled) tooks.Busy _ _ row (Says f row) (λ b is. subst (Says f) is tt)
    (λ b p q. step (f.is_above && (not f.is_live && f.is_crowded)) tooks.NoRoom _ _ row (Says f row)
    (λ b is. subst (Says f) is tt)
    (λ b p q. step (not f.is_above && not f.is_active) tooks.Over _ _ row (Says f row)
    (λ b is. subst (Says f) is (below, low f.is_above (not f.is_active) b))
    (λ b p q. absurd (two-rows row p q)) p q) p q) p q) p q) p q) p q) p q))
    (rows tooks.Full) (rows tooks.Strange)
  where
    low : (a b : Bool) → (not a && b) ≡ true → a ≡ false
    low true b is = absurd (cc (is))
    low false b is = refl

    placed : (b : Bool) (rest rest' : Took) → (if not b && not true then tooks.Full else rest) ≡ row
        → (if not b && not true then tooks.Full else rest') ≡ row → (rest ≡ row → rest' ≡ row → Says f row) → Says f row
    placed true rest rest' p q then_ = then_ p q
    placed false rest rest' p q then_ = then_ p q

-- ---- a message of a connection that isn't known

data-is-no-stray : (m : Message) (body : Body) → is_data body ≡ true → is_stray m body ≡ false
data-is-no-stray m (bodies.Chunk payload) is = refl
data-is-no-stray m bodies.Busy is = refl
data-is-no-stray m (bodies.Ack a) is = refl
data-is-no-stray m (bodies.Abort code) is = absurd (cc (is))
data-is-no-stray m bodies.AckAll is = refl
data-is-no-stray m (bodies.Challenge bytes) is = refl
data-is-no-stray m (bodies.Response bytes) is = refl

-- a row for which its client isn't told to wait
abbrev pub IsPlain : Took → Type 0
IsPlain tooks.NoRoom = ⊥
IsPlain tooks.Busy = ⊥
IsPlain _ = Unit {0}

module _ (s : Setup) (l : Looks) (c : CallName) (m : Message) (row : Took) (number : m.number ≡ c.number)
    (rows : (call : Took) → server_row (early (facts_of s l c m)) call ≡ row) where
  abbrev f : Facts
  f = facts_of s l c m

  module _ (unknown : is_some (conn_at l (connection_of c)) ≡ false) where
    zero-number : (channel_at l (channel_of c)).number ≡ 0
    zero-number =
        channel_number l (channel_of c)
        ∙ ap (λ (o : Option ConnLooks). number_of o c.chan) (is_none (conn_at l (connection_of c)) unknown)

    -- it is turned away, or begins a call
    pub unknown_strange : IsPlain row → (not f.is_known && not (f.can_start && f.has_number)) ≡ true
    unknown_strange plain = of (f.can_start && f.has_number) refl
      where
        of : (b : Bool) → (f.can_start && f.has_number) ≡ b
            → (not f.is_known && not (f.can_start && f.has_number)) ≡ true
        of false is = (λ i. not (unknown i) && not (is i))
        of true is = absurd (never (rows tooks.Full) (rows tooks.Strange))
          where
            starts : (f.can_start ≡ true) × (f.has_number ≡ true)
            starts = both f.can_start f.has_number is

            stops : f.stops_all ≡ false
            stops = data-is-no-stray m m.body (both (is_data m.body) _ starts.0).0

            below : f.is_below ≡ false
            below = (let none = zero-number in grind (arith, nat_tests))

            positive : (n : ℕ) → not (n == 0) ≡ true → nat_lt 0 n ≡ true
            positive n some = grind (arith, nat_tests)

            above : f.is_above ≡ true
            above = ap (λ (n : ℕ). nat_lt n m.number) zero-number ∙ positive m.number starts.1

            open-row : (call : Took) → server_row (early f) call
                ≡ (if f.is_handled then tooks.Busy else if not f.is_live && f.is_crowded then tooks.NoRoom else call)
            open-row call = rw (unknown, is, stops, starts.1, below, above, starts.0) refl

            waits : (a b : Bool) → (if a then tooks.Busy else if b then tooks.NoRoom else tooks.Full) ≡ row
                → (if a then tooks.Busy else if b then tooks.NoRoom else tooks.Strange) ≡ row → ⊥
            waits true b p q = subst IsPlain (sym p) plain
            waits false true p q = subst IsPlain (sym p) plain
            waits false false p q = two-rows row p q

            never : server_row (early f) tooks.Full ≡ row → server_row (early f) tooks.Strange ≡ row → ⊥
            never p q =
                waits f.is_handled (not f.is_live && f.is_crowded) (sym (open-row tooks.Full) ∙ p)
                (sym (open-row tooks.Strange) ∙ q)

  pub side_is : IsServer s.kind → took_named s l c m ≡ server_row f (own_row s (opened s c l) c m)
  side_is server = of s.kind server
    where
      of : (kind : Kind) → IsServer kind
          → side_row kind f (own_row s (opened s c l) c m) ≡ server_row f (own_row s (opened s c l) c m)
      of (Server service nonces) is = refl
      of (Client host epoch) is = absurd is

  -- a row that reaches no call is the rules' answer
  pub row_plain : IsServer s.kind → IsPlain row → row ≡ took_named s l c m
  row_plain server plain = of f.is_known refl
    where
      own : Took
      own = own_row s (opened s c l) c m

      of : (b : Bool) → f.is_known ≡ b → row ≡ took_named s l c m
      of true known = sym (rows own) ∙ row_placed f own (inl known) ∙ sym (side_is server)
      of false unknown =
          (let strange = unknown_strange unknown plain in
          let here : server_row (early f) own ≡ tooks.Strange = rw strange refl in
          let there : server_row f own ≡ tooks.Strange = rw strange refl in
          sym (rows own) ∙ here ∙ sym there ∙ sym (side_is server))

  -- one for which the client is told to wait is it where there is a place for the connection
  pub row_waits : IsServer s.kind → (f.is_known ≡ true) ⊎ (f.has_place ≡ true) → row ≡ took_named s l c m
  row_waits server has =
      sym (rows (own_row s (opened s c l) c m)) ∙ row_placed f (own_row s (opened s c l) c m) has ∙ sym (side_is server)

  -- and else there is none
  pub row_no_place : IsServer s.kind → (row ≡ tooks.Strange → ⊥) → f.is_known ≡ false → f.has_place ≡ false
      → tooks.Full ≡ took_named s l c m
  row_no_place server other unknown full =
      sym (row_full f (own_row s (opened s c l) c m) unknown full
      (λ is. other (sym (rows (own_row s (opened s c l) c m)) ∙ is)))
      ∙ sym (side_is server)

  -- one that says something else than that it is strange is of a connection that is known
  pub known_plain : IsPlain row → (row ≡ tooks.Strange → ⊥) → is_some (conn_at l (connection_of c)) ≡ true
  known_plain plain other = of (is_some (conn_at l (connection_of c))) refl
    where
      of : (b : Bool) → is_some (conn_at l (connection_of c)) ≡ b → b ≡ true
      of true known = refl
      of false unknown =
          absurd (
          let strange = unknown_strange unknown plain in
          let here : server_row (early f) tooks.Full ≡ tooks.Strange = rw strange refl in
          other (sym (rows tooks.Full) ∙ here))
