-- Reading is the inverse of writing.
use Rattle.std.proofs.Common.{◌≡◌, ℕ, ◌+◌, ◌-◌, not, List, [], ◌∷◌, ◌++◌, length, Ok, Err, Result, sym, ap, ◌∙◌, append-nil, arith, length-append}
use denote.Param.{number}
use denote.Struct.Record.{values_one}
use Rattle.std.proofs.lemmas.Bool.{ne_eqb}
use Rattle.blake2.specs.contracts.variant.Variant as variant
use Rattle.byte_strings.proofs.Strings.{one_string}
use Rattle.byte_strings.specs.contracts.bytes.Bytes as bytes
use Rattle.byte_strings.specs.Strings.{listed}
use Rattle.fault.specs.Faults.{on, unless}
use Rattle.fault.specs.declared.fault.Fault.{Fault}
use Rattle.fault.specs.declared.refusal.Refusal.TheVariants.{BytesLeft}
use Rattle.lines.proofs.Cuts.{never_ok, then_back}
use Rattle.lines.specs.Lines.{then, end_answer, Answers}
use Rattle.label.specs.contracts.label.Label as label
use Rattle.label.specs.declared.label.Label.{Label}
use Rattle.label.specs.Labels.{Parts, text, label_lines, front_answer, read_answer}
use Rattle.label.specs.Meaning.{parts, meant, label_text, Begins, Exactly}
use Rattle.label.proofs.Fronts.{front_reads, lines_are_text, text_is_lines}

-- two labels that say the same are one value
pub one_label : (l m : Label) → parts l ≡ parts m → l ≡ m
one_label l m e =
    values_one label.struct (label.the_propositions (variant.the_row).coded (bytes.the_row (number 16)).coded) l m
    (λ i. ((e i).variant, ((e i).digest, ((e i).key, ((e i).fanout, ((e i).depth, ((e i).page, (one_string l.salt m.salt (ap (λ p. p.salt) e) i, (one_string l.layout m.layout (ap (λ p. p.layout) e) i, tt)))))))))

pub one_from_fields : (l m : Label) → l.variant ≡ m.variant → l.digest ≡ m.digest → l.key ≡ m.key → l.fanout ≡ m.fanout → l.depth ≡ m.depth → l.page ≡ m.page → l.salt ≡ m.salt → l.layout ≡ m.layout → l ≡ m
one_from_fields l m a b c d e f g h =
    one_label l m (λ i. record { variant = a i; digest = b i; key = c i; fanout = d i; depth = e i; page = f i; salt = listed (g i); layout = listed (h i) })

-- the whole text, from the front of it

front_back : (s : List ℕ) {p : Parts} {n : ℕ} → front_answer s ≡ Ok (p, n) → (rest : List ℕ) × (label_lines s ≡ Ok (p, rest)) × (n ≡ length s - length rest)
front_back s {p} {n} h =
    let a = then_back (label_lines s) (λ q. Ok (q.0, length s - length q.1)) h in
    let z : ◌≡◌ {A = Parts × ℕ} (a.0.0, length s - length a.0.1) (p, n) = cc a.2 in
    (a.0.1, a.1 ∙ ap (λ q. Ok (q.0, a.0.1)) z, sym (ap (λ q. q.1) z))

pub read_stops : (s : List ℕ) {e : Fault} → label_lines s ≡ Err e → read_answer s ≡ Err e
read_stops s h = ap (λ m. then m (λ p. then (end_answer 10 p.1) (λ _. Ok p.0))) h

pub read_on : (s : List ℕ) (taken : ℕ) {p : Parts} {rest : List ℕ} {m : Result (Unit {0}) Fault} → label_lines s ≡ Ok (p, rest) → taken ≡ 9 → m ≡ end_answer (taken + 1) rest → read_answer s ≡ then m (λ _. Ok p)
read_on s taken {p} {rest} h e i =
    ap (λ m. then m (λ p. then (end_answer 10 p.1) (λ _. Ok p.0))) h ∙ ap (λ m. then m (λ _. Ok p)) (ap (λ n. end_answer (n + 1) rest) (sym e) ∙ sym i)

-- what an answer is, from what it says

meant_is : (r : Result Label Fault) (l : Label) → meant r ≡ Ok (parts l) → r ≡ Ok l
meant_is (Ok m) l h = let e : parts m ≡ parts l = cc in ap Ok (one_label m l e)
meant_is (Err e) l h = absurd (never_ok h)

read_is_text : (s : List ℕ) {p : Parts} → read_answer s ≡ Ok p → s ≡ text p
read_is_text s {p} h =
    let a = then_back (label_lines s) (λ q. then (end_answer 10 q.1) (λ _. Ok q.0)) h in
    go a.0.0 a.0.1 a.1 a.2
  where
    go : (q : Parts) (rest : List ℕ) → label_lines s ≡ Ok (q, rest) → then (end_answer 10 rest) (λ _. Ok q) ≡ Ok p → s ≡ text p
    go q [] i j = let z : q ≡ p = cc in lines_are_text s i ∙ append-nil (text q) ∙ ap text z
    go q (c ∷ rest) i j =
        absurd (never_ok (sym (ap (λ b. then (unless (on (not b) BytesLeft 10 ∷ []) tt) (λ _. Ok q)) (ne_eqb (length (c ∷ rest)) 0 (λ z. omega arith))) ∙ j))

text_is_read : (l : Label) → read_answer (label_text l) ≡ Ok (parts l)
text_is_read l =
    ap read_answer (sym (append-nil (label_text l))) ∙ ap (λ m. then m (λ q. then (end_answer 10 q.1) (λ _. Ok q.0))) (text_is_lines l [])

pub read_inverse : (r : Result Label Fault) (s : List ℕ) → meant r ≡ read_answer s → (l : Label) → Exactly (r ≡ Ok l) (s ≡ label_text l)
read_inverse r s h l = (
  λ e. read_is_text s (sym h ∙ ap meant e),
  λ e. meant_is r l (h ∙ ap read_answer e ∙ text_is_read l),
)

pub front_inverse : (r : Result (Label × ℕ) Fault) (s : List ℕ) → Answers r (λ p. (parts p.0, p.1)) (front_answer s) → (l : Label) (n : ℕ) → Exactly (r ≡ Ok (l, n)) (Begins s (label_text l) × (n ≡ length (label_text l)))
front_inverse (Ok (m, k)) s h l n = (
  λ e. let z : ◌≡◌ {A = Label × ℕ} (m, k) (l, n) = cc in begins l n (h ∙ ap (λ q. Ok (parts q.0, q.1)) z),
  λ w.
      let a : front_answer s ≡ Ok (parts l, n) = front_of l n w.0.0 w.0.1 w.1 in
      let z : ◌≡◌ {A = Parts × ℕ} (parts m, k) (parts l, n) = cc in
      λ i. Ok (one_label m l (ap (λ q. q.0) z) i, (z i).1),
)
  where
    begins : (l : Label) (n : ℕ) → front_answer s ≡ Ok (parts l, n) → Begins s (label_text l) × (n ≡ length (label_text l))
    begins l n i =
        let a = front_back s i in
        let e = lines_are_text s a.1 in
        ((a.0, e), omega (arith, a.2, ap length e, length-append (label_text l) a.0))

    front_of : (l : Label) (n : ℕ) (rest : List ℕ) → s ≡ label_text l ++ rest → n ≡ length (label_text l) → front_answer s ≡ Ok (parts l, n)
    front_of l n rest e i =
        let a = front_reads s (ap label_lines e ∙ text_is_lines l rest) in
        a ∙ ap (λ k. Ok (parts l, k)) (omega (arith, ap length e, length-append (label_text l) rest))
front_inverse (Err d) s h l n = (
  λ e. absurd (never_ok e),
  λ w. absurd (never_ok (sym h ∙ front_reads s (ap label_lines w.0.1 ∙ text_is_lines l w.0.0))),
)
