-- What an event makes of one call: its streams move, its life goes on, and its counts stay right.
use Rattle.std.proofs.Common.{◌≡◌, ◌⊎◌, ◌≤◌, ◌-◌, ◌+◌, ◌*◌, ◌/◌, ℕ, if◌then◌else◌, is_some, max, Bool, true, false}
use Rattle.std.proofs.Common.{List}
use Rattle.std.proofs.Common.{length, Option, Some, None, refl, ◌∙◌, ap, sym, subst, inl, inr, arith}
use Rattle.rx_model.specs.declared.answers.End.{End}
use Rattle.rx_rules.specs.After.{is_ok_end}
use Rattle.rx_rules.specs.Life.{Life, is_waiting}
use Rattle.rx_rules.specs.Looks.{CallRecord, is_call}
use Rattle.rx_rules.specs.Received.{Packet}
use Rattle.rx_rules.specs.Sent.{Giving, greatest_given}
use Rattle.rx_history.specs.Streams.{end_by, end_of_life}
use Rattle.rx_history.proofs.Ends.{Ends, no_ends, ends_in, ends_of, Moves, same_moves}
use Rattle.rx_history.proofs.Lives.{is_running}
use Rattle.rx_history.proofs.Calls.{Quiet, Calls}

-- ---- a server's call, with how often it was accepted, finished, and finished well

pub record Counted (life : Life) (closed ended : Bool) (n m p : ℕ) : Type 0 where
  pub waiting : is_waiting life ≡ true → (n ≡ 0) × (m ≡ 0) × (closed ≡ false) × (p ≡ 0)
  pub running : is_running life ≡ true → (n ≡ 1) × (m ≡ 0) × (closed ≡ false) × (p ≡ 0)
  pub once : n ≤ 1
  pub shut : closed ≡ true → (n ≡ 1) × (m ≡ 1) × (ended ≡ true) × (p ≡ 1)

abbrev pub CountedOf : Option CallRecord → ℕ → ℕ → ℕ → Type 0
CountedOf None n m p = (n ≡ 0) × (m ≡ 0) × (p ≡ 0)
CountedOf (Some k) n m p = Counted k.life k.looks.sent.shut k.looks.received.ended n m p

-- ---- what a sender gave

-- how many pieces count
abbrev pub counting : Bool → ℕ → ℕ
counting shut n = if shut then max 1 ((n + (1412 - 1)) / 1412) else (n - 1) / 1412

-- only what counts was given, and each seq fits its field
pub record Sends (said : List ℕ) (shut : Bool) (givings : List Giving) : Type 0 where
  pub counts : greatest_given givings ≤ counting shut (length said)
  pub fits : length said ≤ 1412 * 4294967294

abbrev pub SendsOf : Ends → Type 0
SendsOf x = Sends x.said x.shut x.givings

-- a call that ended with its reply read has read it
abbrev pub Fine : Option CallRecord → Type 0
Fine o = is_call (λ k. is_ok_end k.life) o ≡ true → (ends_of o).ended ≡ true

-- ---- steps

module _ (Safe Served Good : Type 0) (Cause : End → Type 0) where
  -- nothing moves; where it isn't safe, a call may start anew
  pub record Still (a b : Option CallRecord) : Type 0 where
    pub streams : Safe → ends_of b ≡ ends_of a
    pub sends : SendsOf (ends_of a) → SendsOf (ends_of b)
    pub fine : Safe → Fine a → Fine b
    pub ends : Safe → (end : End) → end_by b ≡ Some end → (end_by a ≡ Some end) ⊎ Cause end
    pub counts : Safe → Served → (n m p : ℕ) → CountedOf a n m p → CountedOf b n m p
    pub named : is_some b ≡ true → (is_some a ≡ true) ⊎ Good

  pub still-refl : (a : Option CallRecord) → Still a a
  still-refl a =
      record {
        streams = λ y. refl;
        sends = λ k. k;
        fine = λ y f. f;
        ends = λ y end is. inl is;
        counts = λ y s n m p c. c;
        named = λ is. inl is;
      }

  or-else : {X Y Z : Type 0} → X ⊎ Y → (X → Z ⊎ Y) → Z ⊎ Y
  or-else (inl x) f = f x
  or-else (inr y) f = inr y

  pub still-trans : (a b c : Option CallRecord) → Still a b → Still b c → Still a c
  still-trans a b c p q =
      record {
        streams = λ y. q.streams y ∙ p.streams y;
        sends = λ k. q.sends (p.sends k);
        fine = λ y f. q.fine y (p.fine y f);
        ends = λ y end is. or-else (q.ends y end is) (λ before. p.ends y end before);
        counts = λ y s n m f k. q.counts y s n m f (p.counts y s n m f k);
        named = λ is. or-else (q.named is) (λ before. p.named before);
      }

  counted-quiet : (a b : CallRecord) → Quiet Cause a b → (n m p : ℕ) → CountedOf (Some a) n m p
      → CountedOf (Some b) n m p
  counted-quiet a b q n m p k =
      let shut : b.looks.sent.shut ≡ a.looks.sent.shut = ap (λ (x : Ends). x.shut) q.streams in
      let ended : b.looks.received.ended ≡ a.looks.received.ended = ap (λ (x : Ends). x.ended) q.streams in
      record {
        waiting = λ is. (let w = k.waiting (q.life.waits is) in (w.0, w.1, shut ∙ w.2, w.3));
        running = λ is. (let w = k.running (q.life.runs is) in (w.0, w.1, shut ∙ w.2, w.3));
        once = k.once;
        shut = λ is. (let w = k.shut (sym shut ∙ is) in (w.0, w.1, ended ∙ w.2, w.3));
      }

  pub calls-still : (a b : Option CallRecord) → Calls Cause a b → Still a b
  calls-still None None q = still-refl None
  calls-still None (Some b) q = absurd q
  calls-still (Some a) None q = absurd q
  calls-still (Some a) (Some b) q =
      record {
        streams = λ y. q.streams;
        sends = λ k. subst SendsOf (sym q.streams) k;
        fine = λ y f is. ap (λ (x : Ends). x.ended) q.streams ∙ f (q.life.fine is);
        ends = λ y end is. q.life.ends end is;
        counts = λ y s n m p k. counted-quiet a b q n m p k;
        named = λ is. inl refl;
      }

  none-end : (end : End) → None ≡ Some end → ⊥
  none-end end is = absurd cc

  fresh-counted : (k : CallRecord) → is_running k.life ≡ false → k.looks.sent.shut ≡ false → (n m p : ℕ)
      → CountedOf None n m p
      → CountedOf (Some k) n m p
  fresh-counted k rests shut n m p c =
      record {
        waiting = λ is. (c.0, c.1, shut, c.2);
        running = λ is. absurd (cc (is, rests));
        once = (let zero = c.0 in omega arith);
        shut = λ is. absurd (cc (is, shut));
      }

  -- a call starts
  pub started-still : (a : Option CallRecord) (k : CallRecord) → (Safe → a ≡ None) → is_running k.life ≡ false
      → is_ok_end k.life ≡ false → end_of_life k.life ≡ None → ends_in k.looks ≡ no_ends → Good → Still a (Some k)
  started-still a k none rests lives on fresh good =
      let shut : k.looks.sent.shut ≡ false = ap (λ (x : Ends). x.shut) fresh in
      record {
        streams = λ y. fresh ∙ ap ends_of (sym (none y));
        sends = λ s. subst SendsOf (sym fresh) (record { counts = omega arith; fits = omega arith });
        fine = λ y f is. absurd (cc (is, lives));
        ends = λ y end is. absurd (none-end end (sym on ∙ is));
        counts = λ y s n m p c. fresh-counted k rests shut n m p
            (subst (λ (o : Option CallRecord). CountedOf o n m p) (none y) c);
        named = λ is. inr good;
      }

  -- a move, or none
  pub record Turn (Comes : Packet → Type 0) (a b : Option CallRecord) : Type 0 where
    pub moves : Safe → Moves Comes (ends_of a) (ends_of b)
    pub sends : SendsOf (ends_of a) → SendsOf (ends_of b)
    pub fine : Safe → Fine a → Fine b
    pub ends : Safe → (end : End) → end_by b ≡ Some end → (end_by a ≡ Some end) ⊎ Cause end
    pub counts : Safe → Served → (n m p : ℕ) → CountedOf a n m p → CountedOf b n m p
    pub named : is_some b ≡ true → (is_some a ≡ true) ⊎ Good

  pub still-turn : (Comes : Packet → Type 0) (a b : Option CallRecord) → Still a b → Turn Comes a b
  still-turn Comes a b s =
      record {
        moves = λ y. same_moves Comes (ends_of a) (ends_of b) (s.streams y);
        sends = s.sends;
        fine = s.fine;
        ends = s.ends;
        counts = s.counts;
        named = s.named;
      }

  pub turn-before : (Comes : Packet → Type 0) (a b c : Option CallRecord) → Still a b → Turn Comes b c → Turn Comes a c
  turn-before Comes a b c s t =
      record {
        moves = λ y. subst (λ (x : Ends). Moves Comes x (ends_of c)) (s.streams y) (t.moves y);
        sends = λ k. t.sends (s.sends k);
        fine = λ y f. t.fine y (s.fine y f);
        ends = λ y end is. or-else (t.ends y end is) (λ before. s.ends y end before);
        counts = λ y r n m p k. t.counts y r n m p (s.counts y r n m p k);
        named = λ is. or-else (t.named is) (λ before. s.named before);
      }

  pub turn-behind : (Comes : Packet → Type 0) (a b c : Option CallRecord) → Turn Comes a b → Still b c → Turn Comes a c
  turn-behind Comes a b c t s =
      record {
        moves = λ y. subst (λ (x : Ends). Moves Comes (ends_of a) x) (sym (s.streams y)) (t.moves y);
        sends = λ k. s.sends (t.sends k);
        fine = λ y f. s.fine y (t.fine y f);
        ends = λ y end is. or-else (s.ends y end is) (λ before. t.ends y end before);
        counts = λ y r n m p k. s.counts y r n m p (t.counts y r n m p k);
        named = λ is. or-else (s.named is) (λ before. t.named before);
      }

  -- the streams alone move, and neither is shut or read to its end by it
  pub streams-turn : (Comes : Packet → Type 0) (a b : CallRecord) → b.life ≡ a.life
      → b.looks.sent.shut ≡ a.looks.sent.shut → b.looks.received.ended ≡ a.looks.received.ended
      → (Safe → Moves Comes (ends_in a.looks) (ends_in b.looks))
      → (SendsOf (ends_in a.looks) → SendsOf (ends_in b.looks))
      → Turn Comes (Some a) (Some b)
  streams-turn Comes a b life shut ended moves sends =
      record {
        moves = moves;
        sends = sends;
        fine = λ y f is. ended ∙ f (ap is_ok_end (sym life) ∙ is);
        ends = λ y end is. inl (ap end_of_life (sym life) ∙ is);
        counts = λ y s n m p k.
            record {
              waiting = λ is. (let w = k.waiting (ap is_waiting (sym life) ∙ is) in (w.0, w.1, shut ∙ w.2, w.3));
              running = λ is. (let w = k.running (ap is_running (sym life) ∙ is) in (w.0, w.1, shut ∙ w.2, w.3));
              once = k.once;
              shut = λ is. (let w = k.shut (sym shut ∙ is) in (w.0, w.1, ended ∙ w.2, w.3));
            };
        named = λ is. inl refl;
      }

  -- a life alone changes; its own counts are told elsewhere
  pub life-still : (k : CallRecord) (life : Life) → (is_ok_end life ≡ true → is_ok_end k.life ≡ true)
      → ((end : End) → end_of_life life ≡ Some end → (end_of_life k.life ≡ Some end) ⊎ Cause end) → (Served → ⊥)
      → Still (Some k) (Some (record k { life = life }))
  life-still k life fine ends unserved =
      record {
        streams = λ y. refl;
        sends = λ s. s;
        fine = λ y f is. f (fine is);
        ends = λ y. ends;
        counts = λ y s. absurd (unserved s);
        named = λ is. inl refl;
      }
