-- What is served for a request is what is served for what is kept of it.
use Rattle.std.proofs.Common.{◌≡◌, ℕ, suc, ℤ, ◌+◌, ◌-◌, ◌≤◌, ◌<◌, Bool, true, false, cond, not, ◌&&◌, ◌||◌, ltb}
use Rattle.std.proofs.Common.{leb, eqb, List, [], ◌∷◌, ◌++◌, length, take, drop, Option, Some, None, Ok, Err}
use Rattle.std.proofs.Common.{refl, sym, ap, ◌∙◌, arith, subst}
use Rattle.std.specs.Int.{w32, from_be_bytes}
use Rattle.std.specs.List.{slice_get}
use Rattle.std.proofs.Math.Seq.{take-length}
use Rattle.std.proofs.lemmas.Bool.{ltb-false, ltb-true, le-ltb, leb-true, le-leb}
use Rattle.std.proofs.lemmas.List.{drop-take, length-append, length-drop, length-take}
use Rattle.std.proofs.lemmas.List.{length-take-le, take-append-drop, take-append-le, take-take, take_all}
use Rattle.xdr_value.specs.Data.{Data, Procedure, Procs, Types}
use Rattle.xdr_code.specs.declared.fault.Fault.TheVariants.{Deep, Short, Bad}
use Rattle.xdr_code.specs.Reading.{AtFront}
use Rattle.stub_table.specs.declared.codes.TheConstants.{SS_UNMARSHAL}
use Rattle.stub_table.specs.Requests.{RequestAnswer, whole, more_wanted, refused, found_from, args_answer, found_answer}
use Rattle.stub_table.specs.Requests.{is_open, opcode_answer, request_answer, seen_answer}
use Rattle.stub_table.proofs.Opcodes.{pair_is}
use Rattle.rx_script.specs.Served.{counted, counted_at, served_by, served_from, served_with}
use Rattle.rx_jobs.specs.Handlers.{Handlers, answer_to, behind_code, early_code, early_from}
use Rattle.rx_jobs.specs.Handlers.{served_for, takes_upload, upload_code, wait_from, wait_of}
use Rattle.rx_jobs.specs.Keeping.{found_uploads, has_upload, kept_of, most_kept, opcode_uploads}
use Rattle.xdr_code.proofs.ItemLaws.{same_word}

-- ---- fronts of requests

-- a list is no longer than a number, or longer
data Fits (n : ℕ) (xs : List ℕ) : Type 0 where
  fits : length xs ≤ n → Fits n xs
  passes : n < length xs → Fits n xs

fits_by : (n : ℕ) (xs : List ℕ) (b : Bool) → ltb n (length xs) ≡ b → Fits n xs
fits_by n xs true e = passes (ltb-true _ _ e)
fits_by n xs false e = fits (ltb-false _ _ e)

how_long : (n : ℕ) (xs : List ℕ) → Fits n xs
how_long n xs = fits_by n xs (ltb n (length xs)) refl

-- and those of a front
front_word : (n : ℕ) (xs : List ℕ) → 4 ≤ length (take n xs)
    → from_be_bytes w32 (take n xs) ≡ from_be_bytes w32 xs
front_word n xs long =
    sym (ap (from_be_bytes w32) (sym (take-append-drop n xs)) ∙ same_word (take n xs) (drop n xs) long)

-- an opcode that is there says whether an upload follows
uploads_long : (g : Handlers) (x : List ℕ) → 4 ≤ length x
    → has_upload g x ≡ found_uploads g (found_from 0 (from_be_bytes w32 x) g.procs)
uploads_long g x long = ap
    (λ (b : Bool). opcode_uploads g (cond b None (Some (from_be_bytes w32 x, drop 4 x)))) (le-ltb (length x) 4 long)

-- so do the requests that begin so
uploads_more : (g : Handlers) (x y : List ℕ) → 4 ≤ length x → has_upload g (x ++ y) ≡ has_upload g x
uploads_more g x y long =
    uploads_long g (x ++ y) (omega (arith, length-append x y))
    ∙ ap (λ (n : ℕ). found_uploads g (found_from 0 n g.procs)) (same_word x y long)
    ∙ sym (uploads_long g x long)

uploads_front : (g : Handlers) (n : ℕ) (r : List ℕ) → 4 ≤ n → has_upload g (take n r) ≡ has_upload g r
uploads_front g n r le = by (how_long n r)
  where
    by : Fits n r → has_upload g (take n r) ≡ has_upload g r
    by (fits short) = ap (has_upload g) (take_all n r short)
    by (passes long) =
        let size : length (take n r) ≡ n = length-take-le n r (omega arith) in
        sym (ap (has_upload g) (sym (take-append-drop n r))
        ∙ uploads_more g (take n r) (drop n r) (omega arith))

-- ---- how much is kept

-- by whether an upload follows
abbrev most_by : Bool → ℕ
most_by b = cond b 16842756 65536

most_least : (g : Handlers) (r : List ℕ) → 65536 ≤ most_kept g r
most_least g r = by (has_upload g r)
  where
    by : (b : Bool) → 65536 ≤ most_by b
    by true = omega arith
    by false = omega arith

most_most : (g : Handlers) (r : List ℕ) → most_kept g r ≤ 16842756
most_most g r = by (has_upload g r)
  where
    by : (b : Bool) → most_by b ≤ 16842756
    by true = omega arith
    by false = omega arith

most_same : (g : Handlers) (x y : List ℕ) → has_upload g x ≡ has_upload g y → most_kept g x ≡ most_kept g y
most_same g x y same = ap most_by same

-- at most so many bytes are kept of any request
pub kept_most : (g : Handlers) (r : List ℕ) → length (kept_of g r) ≤ 16842756
kept_most g r = omega (arith, length-take (most_kept g r) r, most_most g r)

-- and of one without an upload
pub kept_least : (g : Handlers) (r : List ℕ) → has_upload g r ≡ false → length (kept_of g r) ≤ 65536
kept_least g r none =
    let most : most_kept g r ≡ 65536 = ap most_by none in
    omega (arith, length-take (most_kept g r) r, most)

-- it ends where what is kept of it ends
pub kept_front : (g : Handlers) (r : List ℕ) → take (length (kept_of g r)) r ≡ kept_of g r
kept_front g r = by (how_long (most_kept g r) r)
  where
    by : Fits (most_kept g r) r → take (length (kept_of g r)) r ≡ kept_of g r
    by (fits short) =
        let all : kept_of g r ≡ r = take_all (most_kept g r) r short in
        ap (λ (q : List ℕ). take (length q) r) all ∙ take-length r ∙ sym all
    by (passes long) =
        let within : most_kept g r ≤ length r = omega arith in
        ap (λ (n : ℕ). take n r) (length-take-le (most_kept g r) r within)

-- what is kept of what is kept and what follows is what is kept of it all
pub kept_more : (g : Handlers) (r more : List ℕ) → kept_of g (kept_of g r ++ more) ≡ kept_of g (r ++ more)
kept_more g r more = by (how_long (most_kept g r) r)
  where
    by : Fits (most_kept g r) r → kept_of g (kept_of g r ++ more) ≡ kept_of g (r ++ more)
    by (fits short) = ap (λ (q : List ℕ). kept_of g (q ++ more)) (take_all (most_kept g r) r short)
    by (passes long) =
        let n : ℕ = most_kept g r in
        let least : 65536 ≤ n = most_least g r in
        let size : length (take n r) ≡ n = length-take-le n r (omega arith) in
        let front : most_kept g (take n r ++ more) ≡ n =
        most_same g (take n r ++ more) r
        (uploads_more g (take n r) more (omega arith) ∙ uploads_front g n r (omega arith)) in
        let all : most_kept g (r ++ more) ≡ n = most_same g (r ++ more) r (uploads_more g r more (omega arith)) in
        ap (λ (m : ℕ). take m (take n r ++ more)) front
        ∙ take-append-le n (take n r) more (omega arith)
        ∙ take-take n n r (omega arith)
        ∙ sym (take-append-le n r more (omega arith))
        ∙ sym (ap (λ (m : ℕ). take m (r ++ more)) all)

-- ---- what a request is

-- a front that has all that is looked at is what the request is
front_answer : (t : Types) (ps : Procs) (n : ℕ) (r : List ℕ) (ended : Bool) → 65536 ≤ n
    → request_answer t ps (take n r) ended ≡ request_answer t ps r ended
front_answer t ps n r ended le = by (how_long n r)
  where
    by : Fits n r → request_answer t ps (take n r) ended ≡ request_answer t ps r ended
    by (fits short) = ap (λ (q : List ℕ). request_answer t ps q ended) (take_all n r short)
    by (passes long) =
        let size : length (take n r) ≡ n = length-take-le n r (omega arith) in
        let seen : take 65536 (take n r) ≡ take 65536 r = take-take 65536 n r le in
        let front : ltb (length (take n r)) 65536 ≡ false = le-ltb _ _ (omega arith) in
        let full : ltb (length r) 65536 ≡ false = le-ltb _ _ (omega arith) in
        ap (λ (q : List ℕ). seen_answer t ps q ended (is_open (length (take n r)) ended)) seen
        ∙ ap (λ (b : Bool). seen_answer t ps (take 65536 r) ended (not ended && b)) (front ∙ sym full)

-- what is kept of a request says what the request is
pub kept_answer : (g : Handlers) (r : List ℕ) (ended : Bool) → answer_to g (kept_of g r) ended ≡ answer_to g r ended
unfolding answer_to
kept_answer g r ended = front_answer g.types g.procs (most_kept g r) r ended (most_least g r)

-- when it is answered
pub kept_wait : (g : Handlers) (r : List ℕ) → wait_of g (kept_of g r) ≡ wait_of g r
kept_wait g r = ap (wait_from g) (kept_answer g r true)

-- ---- whole arguments

-- a procedure stands in a list at its index, of which the first is i
abbrev StandsAt : ℕ → Procs → ℕ × Procedure → Type 0
StandsAt i ps found = (k : ℕ) × (found.0 ≡ i + k) × (slice_get ps k ≡ Some found.1)

stands_by : (b : Bool) (i opcode : ℕ) (p : Procedure) (ps : Procs) (found : ℕ × Procedure) → eqb p.opcode opcode ≡ b
    → (found_from (suc i) opcode ps ≡ Some found → StandsAt (suc i) ps found)
    → found_from i opcode (p ∷ ps) ≡ Some found → StandsAt i (p ∷ ps) found
stands_by true i opcode p ps found test behind is =
    let here : ℕ × Procedure = (i, p) in
    let one : found_from i opcode (p ∷ ps) ≡ Some here = rw test refl in
    let same : here ≡ found = pair_is here found (sym one ∙ is) in
    let first : i ≡ found.0 = ap (λ (x : ℕ × Procedure). x.0) same in
    let place : found.0 ≡ i + 0 = omega arith in
    (0, place, ap (λ (x : ℕ × Procedure). Some x.1) same)
stands_by false i opcode p ps found test behind is =
    let one : found_from i opcode (p ∷ ps) ≡ found_from (suc i) opcode ps = rw test refl in
    let next : StandsAt (suc i) ps found = behind (sym one ∙ is) in
    let place : suc i + next.0 ≡ i + suc next.0 = omega arith in
    (suc next.0, next.1 ∙ place, next.2)

-- the procedure that is found does
found_stands : (i opcode : ℕ) (ps : Procs) (found : ℕ × Procedure) → found_from i opcode ps ≡ Some found
    → StandsAt i ps found
found_stands i opcode [] found is = absurd cc
found_stands i opcode (p ∷ ps) found is =
    stands_by (eqb p.opcode opcode) i opcode p ps found refl (found_stands (suc i) opcode ps found) is

-- arguments that are whole: their procedure, whether an upload stands behind it, and where they end
record IsWhole (g : Handlers) (r : List ℕ) (index used : ℕ) : Type 0 where
  proc : Procedure
  is : slice_get g.procs index ≡ Some proc
  uploads : has_upload g r ≡ takes_upload g proc
  within : used ≤ 65536

args_within : (i n : ℕ) (waits : Bool) (x : AtFront Data) (index : ℕ) (args : Data) (used : ℕ)
    → args_answer i n waits x ≡ whole index args used → (i ≡ index) × (used ≤ n)
args_within i n waits (Ok x) index args used is =
    let at : i ≡ index = cc in
    let end : n - length x.1 ≡ used = cc in
    (at, omega arith)
args_within i n waits (Err Deep) index args used is = cc
args_within i n waits (Err (Bad left why)) index args used is = cc
args_within i n true (Err Short) index args used is = cc
args_within i n false (Err Short) index args used is = cc

module _ (g : Handlers) (r s : List ℕ) where
  whole_found : (opcode : ℕ) (waits : Bool) (o : Option (ℕ × Procedure)) → found_from 0 opcode g.procs ≡ o
      → has_upload g r ≡ found_uploads g o → length s ≤ 65536 → (index : ℕ) (args : Data) (used : ℕ)
      → found_answer g.types (length s) waits (drop 4 s) o ≡ whole index args used → IsWhole g r index used
  whole_found opcode waits None at uploads short index args used is = cc
  whole_found opcode waits (Some found) at uploads short index args used is =
      let says : (found.0 ≡ index) × (used ≤ length s) = args_within found.0 (length s) waits _ index args used is in
      let stands : (k : ℕ) × (found.0 ≡ 0 + k) × (slice_get g.procs k ≡ Some found.1) =
      found_stands 0 opcode g.procs found at in
      let place : stands.0 ≡ index = omega (arith, stands.1, says.0) in
      record {
        proc = found.1;
        is = subst (λ (k : ℕ). slice_get g.procs k ≡ Some found.1) place stands.2;
        uploads = uploads;
        within = omega (arith, says.1);
      }

  whole_opcode : (ended waits : Bool) (b : Bool) → ltb (length s) 4 ≡ b → has_upload g s ≡ has_upload g r
      → length s ≤ 65536 → (index : ℕ) (args : Data) (used : ℕ)
      → opcode_answer g.types g.procs (length s) ended waits (cond b None (Some (from_be_bytes w32 s, drop 4 s))) ≡
      whole index args used
      → IsWhole g r index used
  whole_opcode true waits true e same short index args used is = cc
  whole_opcode false waits true e same short index args used is = cc
  whole_opcode ended waits false e same short index args used is =
      whole_found (from_be_bytes w32 s) waits (found_from 0 (from_be_bytes w32 s) g.procs) refl
      (sym same ∙ uploads_long g s (ltb-false _ _ e)) short index args used is

is_whole : (g : Handlers) (r : List ℕ) (ended : Bool) (index : ℕ) (args : Data) (used : ℕ)
    → answer_to g r ended ≡ whole index args used → IsWhole g r index used
unfolding answer_to
is_whole g r ended index args used is =
    let s : List ℕ = take 65536 r in
    whole_opcode g r s ended (is_open (length r) ended) (ltb (length s) 4) refl
    (uploads_front g 65536 r (omega arith)) (omega (arith, length-take 65536 r)) index args used is

-- ---- uploads

-- the code of an upload by how many bytes are there and by its count
abbrev code_by : Bool → ℕ → ℕ → Option ℤ
code_by ended there n =
    cond (ltb there 4) (cond ended (Some SS_UNMARSHAL) None)
    (cond (not (leb n 16777216) || (ended && ltb (there - 4) n)) (Some SS_UNMARSHAL) None)

-- where the greatest upload is there more bytes don't change it
long_code : (ended : Bool) (there also n : ℕ) → 16777220 ≤ there → 16777220 ≤ also
    → code_by ended there n ≡ code_by ended also n
long_code ended there also n le also_le =
    let one : ltb there 4 ≡ false = le-ltb _ _ (omega arith) in
    let other : ltb also 4 ≡ false = le-ltb _ _ (omega arith) in
    rw (one, other) (by (leb n 16777216) refl)
  where
    by : (b : Bool) → leb n 16777216 ≡ b
        → cond (not b || (ended && ltb (there - 4) n)) (Some SS_UNMARSHAL) None
        ≡ cond (not b || (ended && ltb (also - 4) n)) (Some SS_UNMARSHAL) None
    by false e = refl
    by true e =
        let most : n ≤ 16777216 = leb-true _ _ e in
        let whole_there : ltb (there - 4) n ≡ false = le-ltb _ _ (omega arith) in
        let whole_also : ltb (also - 4) n ≡ false = le-ltb _ _ (omega arith) in
        rw (whole_there, whole_also) refl

-- a front that has the greatest upload has the same code
upload_front : (m : ℕ) (ended : Bool) (rest : List ℕ) → 16777220 ≤ m
    → upload_code ended (take m rest) ≡ upload_code ended rest
upload_front m ended rest le = by (how_long m rest)
  where
    by : Fits m rest → upload_code ended (take m rest) ≡ upload_code ended rest
    by (fits short) = ap (upload_code ended) (take_all m rest short)
    by (passes long) =
        let size : length (take m rest) ≡ m = length-take-le m rest (omega arith) in
        ap (code_by ended (length (take m rest))) (front_word m rest (omega arith))
        ∙ long_code ended (length (take m rest)) (length rest) (from_be_bytes w32 rest) (omega arith) (omega arith)

-- and the same stream
counted_long : (n k : ℕ) (xs : List ℕ) → 16777216 ≤ k → 16777216 ≤ length xs → counted n (take k xs) ≡ counted n xs
counted_long n k xs le long = by (leb n 16777216) refl
  where
    by : (b : Bool) → leb n 16777216 ≡ b
        → cond (b && leb n (length (take k xs))) (Some (take n (take k xs))) None
        ≡ cond (b && leb n (length xs)) (Some (take n xs)) None
    by false e = refl
    by true e =
        let most : n ≤ 16777216 = leb-true _ _ e in
        let front : leb n (length (take k xs)) ≡ true = le-leb _ _ (omega (arith, length-take k xs)) in
        let all : leb n (length xs) ≡ true = le-leb _ _ (omega arith) in
        rw (front, all) (ap Some (take-take n k xs (omega arith)))

counted_front : (m : ℕ) (rest : List ℕ) → 16777220 ≤ m → counted_at (take m rest) ≡ counted_at rest
counted_front m rest le = by (how_long m rest)
  where
    by : Fits m rest → counted_at (take m rest) ≡ counted_at rest
    by (fits short) = ap counted_at (take_all m rest short)
    by (passes long) =
        let size : length (take m rest) ≡ m = length-take-le m rest (omega arith) in
        let one : ltb (length (take m rest)) 4 ≡ false = le-ltb _ _ (omega arith) in
        let other : ltb (length rest) 4 ≡ false = le-ltb _ _ (omega arith) in
        let parts : m ≡ 4 + (m - 4) = omega arith in
        let behind : drop 4 (take m rest) ≡ take (m - 4) (drop 4 rest) =
        ap (λ (k : ℕ). drop 4 (take k rest)) parts ∙ drop-take 4 (m - 4) rest in
        ap (λ (b : Bool). cond b None (counted (from_be_bytes w32 (take m rest)) (drop 4 (take m rest)))) one
        ∙ ap (λ (n : ℕ). counted n (drop 4 (take m rest))) (front_word m rest (omega arith))
        ∙ ap (counted (from_be_bytes w32 rest)) behind
        ∙ counted_long (from_be_bytes w32 rest) (m - 4) (drop 4 rest) (omega arith)
        (omega (arith, length-drop 4 rest))
        ∙ sym (ap (λ (b : Bool). cond b None (counted (from_be_bytes w32 rest) (drop 4 rest))) other)

-- ---- requests

-- behind arguments that are whole the greatest upload is kept
behind_kept : (g : Handlers) (r : List ℕ) (used : ℕ) → has_upload g r ≡ true → used ≤ 65536
    → drop used (kept_of g r) ≡ take (16842756 - used) (drop used r)
behind_kept g r used uploads within =
    let parts : 16842756 ≡ used + (16842756 - used) = omega arith in
    ap (λ (b : Bool). drop used (take (most_by b) r)) uploads
    ∙ ap (λ (n : ℕ). drop used (take n r)) parts
    ∙ drop-take used (16842756 - used) r

module _ (g : Handlers) (r : List ℕ) (ended : Bool) where
  early_kept : (p : Procedure) (used : ℕ) → used ≤ 65536 → (b : Bool) → has_upload g r ≡ b
      → cond b (upload_code ended (drop used (kept_of g r))) None ≡ cond b (upload_code ended (drop used r)) None
  early_kept p used within false uploads = refl
  early_kept p used within true uploads =
      ap (upload_code ended) (behind_kept g r used uploads within)
      ∙ upload_front (16842756 - used) ended (drop used r) (omega arith)

  early_by : (a : RequestAnswer) → answer_to g r ended ≡ a
      → early_from g (kept_of g r) ended a ≡ early_from g r ended a
  early_by (refused c) e = refl
  early_by more_wanted e = refl
  early_by (whole index args used) e =
      let w : IsWhole g r index used = is_whole g r ended index args used e in
      ap (behind_code g ended (drop used (kept_of g r))) w.is
      ∙ early_kept w.proc used w.within (takes_upload g w.proc) w.uploads
      ∙ sym (ap (behind_code g ended (drop used r)) w.is)

  -- what is kept of a request says which code it has while it is read
  pub kept_early : early_code g (kept_of g r) ended ≡ early_code g r ended
  kept_early =
      ap (early_from g (kept_of g r) ended) (kept_answer g r ended) ∙ early_by (answer_to g r ended) refl

module _ (g : Handlers) (r : List ℕ) where
  upload_kept : (used : ℕ) → used ≤ 65536 → (b : Bool) → has_upload g r ≡ b
      → cond b (counted_at (drop used (kept_of g r))) (Some []) ≡ cond b (counted_at (drop used r)) (Some [])
  upload_kept used within false uploads = refl
  upload_kept used within true uploads =
      ap counted_at (behind_kept g r used uploads within)
      ∙ counted_front (16842756 - used) (drop used r) (omega arith)

  served_by_kept : (a : RequestAnswer) → answer_to g r true ≡ a
      → served_from g.types g.procs g.script (kept_of g r) a ≡ served_from g.types g.procs g.script r a
  served_by_kept (refused c) e = refl
  served_by_kept more_wanted e = refl
  served_by_kept (whole index args used) e =
      let w : IsWhole g r index used = is_whole g r true index args used e in
      ap (served_by g.types g.script args (drop used (kept_of g r))) w.is
      ∙ ap (served_with g.types g.script w.proc args)
      (upload_kept used w.within (takes_upload g w.proc) w.uploads)
      ∙ sym (ap (served_by g.types g.script args (drop used r)) w.is)

  -- and what is served for it
  pub kept_served : served_for g (kept_of g r) ≡ served_for g r
  unfolding served_for answer_to
  kept_served =
      ap (served_from g.types g.procs g.script (kept_of g r)) (kept_answer g r true)
      ∙ served_by_kept (request_answer g.types g.procs r true) refl
