-- Counted streams at the front of bytes.
use Rattle.std.proofs.Common.{◌≡◌, ℕ, ◌≤◌, Bool, true, false, leb, ltb, List, [], ◌∷◌, ◌++◌, length, take, drop}
use Rattle.std.proofs.Common.{Some, None, refl, sym, ap, subst, ◌∙◌, append_assoc, arith}
use Rattle.std.specs.Int.{w32, from_be_bytes}
use Rattle.std.proofs.lemmas.Bool.{leb-true, le-leb, le-ltb, ltb-false}
use Rattle.std.proofs.lemmas.Nat.{from_be_bytes-to_be_bytes_4}
use Rattle.std.proofs.lemmas.List.{length-append, length-take, take-append-drop, take_at, drop_at}
use Rattle.hex.specs.Hex.{IsBytes}
use Rattle.xdr_value.specs.Spelling.{word}
use Rattle.xdr_code.proofs.Bytes.{IsBytes-take, IsBytes-drop, wide32}
use Rattle.rx_script.specs.Served.{as_counted, counted}
use Rattle.rx_reply.specs.Replies.{with_rest, counted_front}

again_at : (sent rest : List ℕ) → length sent ≤ 16777216
    → counted_front (word (length sent) ++ (sent ++ rest)) ≡ Some (sent, rest)
again_at sent rest within =
    let body : List ℕ = sent ++ rest in
    let long : ltb (length (word (length sent) ++ body)) 4 ≡ false = le-ltb _ _ (omega arith) in
    let count : from_be_bytes w32 (word (length sent) ++ body) ≡ length sent =
    from_be_bytes-to_be_bytes_4 (length sent) (omega (arith, within)) in
    let small : leb (length sent) 16777216 ≡ true = le-leb (length sent) 16777216 within in
    let there : leb (length sent) (length body) ≡ true =
    le-leb (length sent) (length body) (omega (arith, length-append sent rest)) in
    let front : take (length sent) body ≡ sent = take_at sent rest (length sent) refl in
    let behind : drop (length sent) body ≡ rest = drop_at sent rest (length sent) refl in
    rw (long, count, small, there, front, behind) refl

-- a counted stream that is written is found at the front, whatever follows
pub counted_again : (sent rest : List ℕ) → length sent ≤ 16777216
    → counted_front (as_counted sent ++ rest) ≡ Some (sent, rest)
counted_again sent rest within =
    ap counted_front (append_assoc (word (length sent)) sent rest) ∙ again_at sent rest within

-- the four bytes of a length, and those behind it
word_front : (bytes : List ℕ) → 4 ≤ length bytes → IsBytes bytes
    → word (from_be_bytes w32 bytes) ++ drop 4 bytes ≡ bytes
word_front [] long held = absurd (omega (arith, long))
word_front (a ∷ []) long held = absurd (omega (arith, long))
word_front (a ∷ b ∷ []) long held = absurd (omega (arith, long))
word_front (a ∷ b ∷ c ∷ []) long held = absurd (omega (arith, long))
word_front (a ∷ b ∷ c ∷ d ∷ rest) long held =
    ap (λ (front : List ℕ). front ++ rest) (wide32.back (a ∷ b ∷ c ∷ d ∷ []) refl (IsBytes-take 4 (a ∷ b ∷ c ∷ d ∷ rest)
    held))

-- what a counted stream at the front says of the bytes
pub record IsCountedFront (bytes : List ℕ) (x : List ℕ × List ℕ) : Type 0 where
  pub within : length x.0 ≤ 16777216
  pub spelled : bytes ≡ as_counted x.0 ++ x.1
  pub held : IsBytes x.1

pair_is : (x y : List ℕ × List ℕ) → Some x ≡ Some y → x ≡ y
pair_is x y e = cc

-- so many bytes behind a length, where they are few enough and there
cut_front : (bytes : List ℕ) (n : ℕ) → n ≡ from_be_bytes w32 bytes → 4 ≤ length bytes → n ≤ 16777216
    → n ≤ length (drop 4 bytes) → IsBytes bytes
    → IsCountedFront bytes (take n (drop 4 bytes), drop (length (take n (drop 4 bytes))) (drop 4 bytes))
cut_front bytes n is long small there held =
    let body : List ℕ = drop 4 bytes in
    let many : length (take n body) ≡ n = omega (arith, length-take n body) in
    let parted : take n body ++ drop (length (take n body)) body ≡ body =
    ap (λ (k : ℕ). take n body ++ drop k body) many ∙ take-append-drop n body in
    let spelled : bytes ≡ word (length (take n body)) ++ (take n body ++ drop (length (take n body)) body) =
    sym (word_front bytes long held) ∙ ap (λ (k : ℕ). word k ++ body) (sym is ∙ sym many)
    ∙ ap (λ (b : List ℕ). word (length (take n body)) ++ b) (sym parted) in
    record {
      within = omega (arith, many, small);
      spelled = spelled ∙ sym (append_assoc (word (length (take n body))) (take n body)
          (drop (length (take n body)) body));
      held = IsBytes-drop (length (take n body)) body (IsBytes-drop 4 bytes held);
    }

counted_by : (bytes : List ℕ) (n : ℕ) (x : List ℕ × List ℕ) (small there : Bool) → n ≡ from_be_bytes w32 bytes
    → 4 ≤ length bytes → leb n 16777216 ≡ small → leb n (length (drop 4 bytes)) ≡ there → IsBytes bytes
    → with_rest (drop 4 bytes) (counted n (drop 4 bytes)) ≡ Some x
    → IsCountedFront bytes x
counted_by bytes n x true true is long small there held e =
    let cut : List ℕ × List ℕ = (take n (drop 4 bytes), drop (length (take n (drop 4 bytes))) (drop 4 bytes)) in
    let here : Some cut ≡ Some x = rw (small, there) at e in
    subst (IsCountedFront bytes) (pair_is cut x here)
    (cut_front bytes n is long (leb-true n 16777216 small) (leb-true n (length (drop 4 bytes)) there) held)
counted_by bytes n x true false is long small there held e =
    let none : None ≡ Some x = rw (small, there) at e in absurd cc
counted_by bytes n x false there is long small t held e = let none : None ≡ Some x = rw small at e in absurd cc

long_by : (bytes : List ℕ) (x : List ℕ × List ℕ) (short : Bool) → ltb (length bytes) 4 ≡ short → IsBytes bytes
    → counted_front bytes ≡ Some x → IsCountedFront bytes x
long_by bytes x true short held e = let none : None ≡ Some x = rw short at e in absurd cc
long_by bytes x false short held e =
    counted_by bytes (from_be_bytes w32 bytes) x _ _ refl (ltb-false _ _ short) refl refl held (rw short at e)

-- a counted stream that is found at the front is spelled there
pub counted_spells : (bytes : List ℕ) (x : List ℕ × List ℕ) → IsBytes bytes → counted_front bytes ≡ Some x
    → IsCountedFront bytes x
counted_spells bytes x held e = long_by bytes x _ refl held e
