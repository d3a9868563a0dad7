-- What one end of a call said and received, as one value, and how an event may move it.
use Rattle.std.proofs.Common.{◌≡◌, ◌⊎◌, ◌++◌, ℕ, Bool, true, false, List, [], ◌∷◌, length, take, drop, Option, Some}
use Rattle.std.proofs.Common.{None}
use Rattle.std.proofs.Common.{refl, sym, ap, inl, inr, subst, append-nil, ◌∙◌}
use Rattle.rx_rules.specs.CallLooks.{CallLooks}
use Rattle.rx_rules.specs.Looks.{CallRecord}
use Rattle.rx_rules.specs.Received.{Packet, front_of, heard_of, is_within, last_seq}
use Rattle.rx_rules.specs.Sent.{Giving}

-- the bytes said, whether the stream is shut, and the pieces given; the packets kept, the bytes read, whether a read
-- answered End
pub record Ends : Type 0 where
  pub said : List ℕ
  pub shut : Bool
  pub givings : List Giving
  pub kept : List Packet
  pub read : List ℕ
  pub ended : Bool

-- nothing yet
abbrev pub no_ends : Ends
no_ends = record { said = []; shut = false; givings = []; kept = []; read = []; ended = false }

-- of a call
abbrev pub ends_in : CallLooks → Ends
ends_in k =
    record {
      said = k.sent.said;
      shut = k.sent.shut;
      givings = k.sent.givings;
      kept = k.received.kept;
      read = k.received.read;
      ended = k.received.ended;
    }

-- of a call that is looked for
abbrev pub ends_of : Option CallRecord → Ends
ends_of None = no_ends
ends_of (Some k) = ends_in k.looks

-- the bytes that no read gave yet
abbrev pub left_of : Ends → List ℕ
left_of x = drop (length x.read) (heard_of x.kept)

-- the last packet stands without a gap
abbrev pub whole_of : Ends → Bool
whole_of x = is_within (last_seq x.kept) (front_of x.kept)

-- a stream only grows, and stops where it is shut
pub record Grows (old : List ℕ) (was : Bool) (new : List ℕ) (is : Bool) : Type 0 where
  pub more : List ℕ
  pub joined : new ≡ old ++ more
  pub stops : was ≡ true → (more ≡ []) × (is ≡ true)

pub same_stream : (bytes : List ℕ) (shut : Bool) → Grows bytes shut bytes shut
same_stream bytes shut = record { more = []; joined = sym (append-nil bytes); stops = λ y. (refl, y) }

-- a packet came
pub record OneMore (Comes : Packet → Type 0) (old new : List Packet) : Type 0 where
  pub packet : Packet
  pub is : new ≡ packet ∷ old
  pub comes : Comes packet

-- a move of an end: more was said, a packet was kept, the next bytes were read
pub record Moves (Comes : Packet → Type 0) (x y : Ends) : Type 0 where
  pub grows : Grows x.said x.shut y.said y.shut
  pub kept : (y.kept ≡ x.kept) ⊎ OneMore Comes x.kept y.kept
  pub count : ℕ
  pub read : y.read ≡ x.read ++ take count (left_of x)
  pub ended : y.ended ≡ true → (x.ended ≡ true) ⊎ ((left_of x ≡ []) × (whole_of x ≡ true))

take_zero : (xs : List ℕ) → take 0 xs ≡ []
take_zero [] = refl
take_zero (x ∷ xs) = refl

pub none_read : (xs left : List ℕ) → xs ≡ xs ++ take 0 left
none_read xs left = sym (append-nil xs) ∙ ap (λ (ys : List ℕ). xs ++ ys) (sym (take_zero left))

-- nothing moved
pub stands_still : (Comes : Packet → Type 0) (x : Ends) → Moves Comes x x
stands_still Comes x =
    record {
      grows = same_stream x.said x.shut;
      kept = inl refl;
      count = 0;
      read = none_read x.read (left_of x);
      ended = λ y. inl y;
    }

pub same_moves : (Comes : Packet → Type 0) (x y : Ends) → y ≡ x → Moves Comes x y
same_moves Comes x y is = subst (λ (z : Ends). Moves Comes x z) (sym is) (stands_still Comes x)

-- bytes were said
pub said_moves : (Comes : Packet → Type 0) (x : Ends) (bytes : List ℕ) → (x.shut ≡ true → bytes ≡ [])
    → Moves Comes x (record x { said = x.said ++ bytes })
said_moves Comes x bytes none =
    record {
      grows = record { more = bytes; joined = refl; stops = λ y. (none y, y) };
      kept = inl refl;
      count = 0;
      read = none_read x.read (left_of x);
      ended = λ y. inl y;
    }

-- the stream was shut
pub shut_moves : (Comes : Packet → Type 0) (x : Ends) → Moves Comes x (record x { shut = true })
shut_moves Comes x =
    record {
      grows = record { more = []; joined = sym (append-nil x.said); stops = λ y. (refl, refl) };
      kept = inl refl;
      count = 0;
      read = none_read x.read (left_of x);
      ended = λ y. inl y;
    }

-- a piece was given
pub given_moves : (Comes : Packet → Type 0) (x : Ends) (gs : List Giving) → Moves Comes x (record x { givings = gs })
given_moves Comes x gs =
    record {
      grows = same_stream x.said x.shut;
      kept = inl refl;
      count = 0;
      read = none_read x.read (left_of x);
      ended = λ y. inl y;
    }

-- a packet was kept
pub kept_moves : (Comes : Packet → Type 0) (x : Ends) (p : Packet) → Comes p
    → Moves Comes x (record x { kept = p ∷ x.kept })
kept_moves Comes x p comes =
    record {
      grows = same_stream x.said x.shut;
      kept = inr (record { packet = p; is = refl; comes = comes });
      count = 0;
      read = none_read x.read (left_of x);
      ended = λ y. inl y;
    }
