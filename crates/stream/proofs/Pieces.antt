-- Pieces that are added one after another, and what one call over them all answers.
use Rattle.std.proofs.Common.{◌≡◌, ℕ, ◌+◌, ◌^◌, ◌<◌, ◌≤◌, Bool, true, false, cond, not, eqb, ltb, List, [], ◌∷◌, ◌++◌, length, get_or, take, is_ok, Ok, Err, Result, sym, refl, ap, ◌∙◌, add-zero, zero-add, arith}
use Rattle.std.specs.List.{concat, flat_map}
use Rattle.std.proofs.lemmas.List.{append-nil, append_assoc, length-append, take_more, flat_map_more}
use Rattle.std.proofs.lemmas.List.Folds.{length-flat_map-take}
use Rattle.std.proofs.lemmas.Bool.{ltb-true, lt-ltb, eq-eqb}
use Rattle.blake2.specs.Width.{Width}
use Rattle.fault.proofs.Rows.{rows_stop, rows_pass}
use Rattle.fault.specs.Faults.{fault, unless}
use Rattle.fault.specs.declared.fault.Fault.{Fault}
use Rattle.fault.specs.declared.refusal.Refusal.TheVariants.{StreamLength, DigestBuffer}
use Rattle.stream.specs.Hash.{blocks, digest}
use Rattle.stream.specs.Streams.{View, fresh, begin_rows, begin_answer, begun, add_rows, add_answer, taken, added, added_all, finish_rows, finish_answer, finished, digest_answer, digest_out}
use Rattle.stream.proofs.Views.{view_is, accepted, added_is}

pub taken_none : (v : View) → v ≡ taken v []
taken_none v = view_is v (taken v []) refl (sym (add-zero v.total)) (λ n. ap v.blocks (sym (zero-add n))) (λ rest. refl)

taken_more : (v : View) (a b : List ℕ) → taken (taken v a) b ≡ taken v (a ++ b)
taken_more v a b =
    view_is (taken (taken v a) b) (taken v (a ++ b)) refl (omega (arith, length-append a b))
    (λ n. ap v.blocks (omega (arith, length-append a b)))
    (λ rest. ap v.digest (sym (append_assoc a b rest)))

flat_map-next : {X : Type 0} (f : X → List ℕ) (xs : List X) (i : ℕ) (d : X) → i < length xs → flat_map f (take (i + 1) xs) ≡ flat_map f (take i xs) ++ f (get_or xs i d)
flat_map-next f xs i d inside = ap (flat_map f) (take_more xs i d inside) ∙ sym (flat_map_more f [] (take i xs) (get_or xs i d))

-- a begin that is accepted
pub begun_is : (w : Width) (d : ℕ) (key : List ℕ) → begin_answer w d (length key) ≡ Ok tt → begun w d key ≡ fresh w d key
begun_is w d key ok = ap (λ answer. cond (is_ok answer) (fresh w d key) (fresh w 1 [])) ok

-- an add that is accepted
added_ok : (v : View) (piece : List ℕ) → add_answer v (length piece) ≡ Ok tt → added v piece ≡ taken v piece
added_ok v piece ok = ap (λ answer. cond (is_ok answer) (taken v piece) v) ok

-- one turn of the loop over the pieces
pub pieces_more : {X : Type 0} (f : X → List ℕ) (begun v v' : View) (pieces : List X) (i : ℕ) (d : X) → v' ≡ added v (f (get_or pieces i d))
    → add_answer v (length (f (get_or pieces i d))) ≡ Ok tt → v ≡ taken begun (flat_map f (take i pieces)) → i < length pieces
    → v' ≡ taken begun (flat_map f (take (i + 1) pieces))
pieces_more f begun v v' pieces i d step ok inv inside =
    let piece = f (get_or pieces i d) in
    step ∙ added_ok v piece ok ∙ ap (λ u. taken u piece) inv ∙ taken_more begun (flat_map f (take i pieces)) piece
    ∙ ap (taken begun) (sym (flat_map-next f pieces i d inside))

-- where the whole call is refused, the output stays as it was
pub out_kept : (w : Width) (d : ℕ) (key input out : List ℕ) (e : Fault) → digest_answer w d (length key) (length input) (length out) ≡ Err e → out ≡ digest_out w d key input out
out_kept w d key input out e no-digest = sym (ap (λ (answer : Result ℕ Fault). cond (is_ok answer) (digest w d key input) out) no-digest)

pub begin_stops : (w : Width) (d k n m : ℕ) (e : Fault) → begin_answer w d k ≡ Err e → digest_answer w d k n m ≡ Err e
begin_stops w d k n m e no-begin = rows_stop (begin_rows w d k) (add_rows 0 n ++ finish_rows d m) (blocks w k n) e no-begin

late : (b : Bool) (f e : Fault) → ◌≡◌ {A = Result (Unit {0}) Fault} (cond b (Err f) (Ok tt)) (Err e) → (b ≡ true) × (f ≡ e)
late true f e h = (refl, cc)
late false f e h = (cc, cc)

-- a piece that passes the limit makes the whole too long
pub add_stops : {X : Type 0} (f : X → List ℕ) (w : Width) (d : ℕ) (key : List ℕ) (m i : ℕ) (v : View) (pieces : List X) (x : X) (e : Fault)
    → begin_answer w d (length key) ≡ Ok tt → i < length pieces → v ≡ taken (fresh w d key) (flat_map f (take i pieces))
    → add_answer v (length (f (get_or pieces i x))) ≡ Err e → digest_answer w d (length key) (length (flat_map f pieces)) m ≡ Err e
add_stops f w d key m i v pieces x e ok inside inv refused =
    let piece = f (get_or pieces i x) in
    let n = length (flat_map f pieces) in
    let p = late (ltb (2 ^ 40) (v.total + length piece)) (fault StreamLength 0) e refused in
    let over = ltb-true (2 ^ 40) (v.total + length piece) p.0 in
    let total = ap (λ u. u.total) inv in
    let most = length-flat_map-take f pieces i x inside in
    let all : ltb (2 ^ 40) (0 + n) ≡ true = lt-ltb (2 ^ 40) (0 + n) (omega arith) in
    rows_pass (begin_rows w d (length key)) (add_rows 0 n ++ finish_rows d m) (blocks w (length key) n) ok
    ∙ ap (λ (b : Bool). cond b (Err (fault StreamLength 0)) (unless (finish_rows d m) (blocks w (length key) n))) all
    ∙ ap Err p.1

-- a finish after the whole input
pub finish_answers : (w : Width) (d m : ℕ) (key input : List ℕ) (v : View) → begin_answer w d (length key) ≡ Ok tt → length input ≤ 2 ^ 40
    → v ≡ taken (fresh w d key) input → finish_answer v m ≡ digest_answer w d (length key) (length input) m
finish_answers w d m key input v ok short e =
    let fits : 0 + length input ≤ 2 ^ 40 = omega arith in
    ap (λ u. finish_answer u m) e
    ∙ ap (λ n. unless (finish_rows d m) (blocks w (length key) n)) (add-zero (length input))
    ∙ sym (rows_pass (add_rows 0 (length input)) (finish_rows d m) (blocks w (length key) (length input)) (accepted (fresh w d key) (length input) fits))
    ∙ sym (rows_pass (begin_rows w d (length key)) (add_rows 0 (length input) ++ finish_rows d m) (blocks w (length key) (length input)) ok)

pub finish_writes : (w : Width) (d : ℕ) (key input out : List ℕ) (v : View) → begin_answer w d (length key) ≡ Ok tt → length input ≤ 2 ^ 40
    → v ≡ taken (fresh w d key) input → finished v out ≡ digest_out w d key input out
finish_writes w d key input out v ok short e =
    ap (λ answer. cond (is_ok answer) (v.digest []) out) (finish_answers w d (length out) key input v ok short e)
    ∙ ap (λ bytes. cond (is_ok (digest_answer w d (length key) (length input) (length out))) bytes out)
    (ap (λ u. u.digest []) e ∙ ap (digest w d key) (append-nil input))

-- pieces that there is room for, added one after another
added_all_lem : (v : View) (pieces : List (List ℕ)) → v.total + length (concat pieces) ≤ 2 ^ 40 → added_all v pieces ≡ taken v (concat pieces)
added_all_lem v [] room = taken_none v
added_all_lem v (piece ∷ pieces) room =
    let long = length-append piece (concat pieces) in
    ap (λ u. added_all u pieces) (added_is v piece (omega arith)) ∙ added_all_lem (taken v piece) pieces (omega arith) ∙ taken_more v piece (concat pieces)

-- a finish into an output of the digest's length, after any pieces
pub finish_joined : (w : Width) (d : ℕ) (key out : List ℕ) (pieces : List (List ℕ)) (v : View) → begin_answer w d (length key) ≡ Ok tt → length (concat pieces) ≤ 2 ^ 40
    → v ≡ added_all (begun w d key) pieces → length out ≡ d → finished v out ≡ digest w d key (concat pieces)
finish_joined w d key out pieces v ok short e long =
    let fits : 0 + length (concat pieces) ≤ 2 ^ 40 = omega arith in
    let all : v ≡ taken (fresh w d key) (concat pieces) =
    e ∙ ap (λ u. added_all u pieces) (begun_is w d key ok) ∙ added_all_lem (fresh w d key) pieces fits in
    let right : eqb (length out) d ≡ true = eq-eqb (length out) d long in
    ap (λ u. finished u out) all
    ∙ ap (λ (b : Bool). cond (is_ok {E = Fault} (cond (not b) (Err (fault DigestBuffer 0)) (Ok (blocks w (length key) (length (concat pieces) + 0))))) (digest w d key (concat pieces ++ [])) out) right
    ∙ ap (digest w d key) (append-nil (concat pieces))
