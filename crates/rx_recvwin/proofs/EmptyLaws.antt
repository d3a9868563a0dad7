-- A window with nothing in its places.
use Rattle.std.proofs.Common.{◌≡◌, ◌≤◌, is_some, map, replicate}
use Rattle.std.proofs.Common.{false, ℕ, suc, zero, List, [], ◌∷◌, length, Option}
use Rattle.std.proofs.Common.{None, Some, refl, sym, ap, ◌∙◌, arith}
use Rattle.std.proofs.lemmas.Bool.{false≢true}
use Rattle.std.proofs.lemmas.List.{length-replicate}
use Rattle.rx_model.specs.declared.wire.TheConstants.{MIN_WINDOW, MAX_WINDOW}
use Rattle.rx_rules.specs.Received.{Piece, nothing_received}
use Rattle.rx_pool.specs.Pool.{Slots}
use Rattle.rx_recvwin.specs.declared.packet.KeptPacket.{KeptPacket}
use Rattle.rx_recvwin.specs.Places.{place_at, leading, count_in, slots_in, seen_at}
use Rattle.rx_recvwin.specs.Window.{RecvWindow, window_of, StandsFor, IsTied}

-- ---- nothing in the places

pub none_at : {X : Type 0} (n i : ℕ) → place_at {X = X} (replicate n None) i ≡ None
none_at zero i = refl
none_at (suc n) zero = refl
none_at (suc n) (suc i) = none_at n i

pub leading_none : (X : Type 0) (n : ℕ) → leading {X = X} (replicate n None) ≡ 0
leading_none X zero = refl
leading_none X (suc n) = refl

pub count_none : (X : Type 0) (n : ℕ) → count_in {X = X} (replicate n None) ≡ 0
count_none X zero = refl
count_none X (suc n) = count_none X n

-- none of which is taken
pub none_taken : {X : Type 0} (ps : List (Option X)) → count_in ps ≡ 0 → ps ≡ replicate (length ps) None
none_taken [] none = refl
none_taken (None ∷ ps) none = ap (λ (qs : List (Option _)). None ∷ qs) (none_taken ps none)
none_taken (Some p ∷ ps) taken = absurd (omega (arith, taken))

pub slots_none : (n : ℕ) → slots_in (replicate n None) ≡ []
slots_none zero = refl
slots_none (suc n) = slots_none n

pub seen_none : (pool : Slots) (n : ℕ) → map (seen_at pool) (replicate n None) ≡ replicate n None
seen_none pool zero = refl
seen_none pool (suc n) = ap (λ ps. None ∷ ps) (seen_none pool n)

pub tied_empty : (width : ℕ) (places : List (Option KeptPacket)) → places ≡ replicate width None → MIN_WINDOW ≤ width →
    width ≤ MAX_WINDOW → IsTied width 0 0 0 places
tied_empty width places is least most =
    let nothing : (i : ℕ) → place_at places i ≡ None = (λ i. ap (λ ps. place_at ps i) is ∙ none_at width i) in
    record {
      least = least;
      most = most;
      seqs = (omega arith, λ i h. absurd (false≢true (ap is_some (sym (nothing i)) ∙ h)));
      sizes = λ i h e. absurd (false≢true (ap is_some (sym (nothing i) ∙ e)));
      upto = (let none : leading places ≡ 0 = ap leading is ∙ leading_none KeptPacket width in omega (arith, none));
      count = sym (ap count_in is ∙ count_none KeptPacket width);
    }

-- an empty window
abbrev pub empty_window : ℕ → List (Option KeptPacket) → RecvWindow
empty_window width places =
    record {
      width = width;
      used = 0;
      offset = 0;
      places = places;
      last = None;
      greatest = 0;
      ended = false;
      previous = 0;
    }

pub empty_stands : (pool : Slots) (width : ℕ) (places : List (Option KeptPacket)) → places ≡ replicate width None →
    MIN_WINDOW ≤ width → StandsFor (window_of pool (empty_window width places)) nothing_received
empty_stands pool width places is least =
    let all : map (seen_at pool) places ≡ replicate width None = ap (map (seen_at pool)) is ∙ seen_none pool width in
    record {
      near = record {
        sound = record {
          fits = omega arith;
          zero = refl;
          once = tt;
          marked = λ k b e l. absurd cc;
          last = λ l e. absurd cc;
          over = λ t. absurd (false≢true t);
        };
        done = λ k lt. absurd (omega (arith, lt));
        some = omega (arith, least);
        size = ap length all ∙ length-replicate width None;
        ahead = λ i. ap (λ ps. place_at ps i) all ∙ none_at width i;
        within = omega arith;
        count = ap count_in all ∙ count_none Piece width;
        offset = refl;
        short = omega arith;
        marked = refl;
        greatest = refl;
        ended = refl;
        previous = refl;
      };
      stops = refl;
    }
