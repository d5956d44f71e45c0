-- Records that follow others.
use Rattle.std.proofs.Common.{◌≡◌, ℕ, ◌+◌, ◌<◌, suc, List, [], ◌∷◌, ◌++◌, length, refl, sym, ◌∙◌, ap, subst, arith, append_assoc, length-append}
use Rattle.std.proofs.lemmas.List.{append-nil, get_or_append_left}
use Rattle.std.proofs.lemmas.List.Elements.{All-push, All-weaker}
use Rattle.std.specs.Prelude.{All}
use Rattle.std.specs.List.{slice_index_or}
use Rattle.sample_tables.specs.Rows.{stack_at}
use Rattle.stack_core.specs.declared.endings.Item.TheVariants as item
use Rattle.stack_core.specs.declared.records.RingRecord.{RingRecord}
use Rattle.stack_core.specs.declared.records.RingRecord.TheVariants.{Name, Row, Again, Close}
use Rattle.stack_core.specs.Records.{names_told, stacks_told, names_at, sample_item, stands_for_after, stands_for, written, IsWellToldAfter, IsWellTold}

pub names_told-append : (records more : List RingRecord) → names_told (records ++ more) ≡ names_told records ++ names_told more
names_told-append [] more = refl
names_told-append (Name name ∷ records) more = ap (λ names. name ∷ names) (names_told-append records more)
names_told-append (Row frames weight ∷ records) more = names_told-append records more
names_told-append (Again row weight ∷ records) more = names_told-append records more
names_told-append (Close last ∷ records) more = names_told-append records more

pub stacks_told-append : (records more : List RingRecord) → stacks_told (records ++ more) ≡ stacks_told records ++ stacks_told more
stacks_told-append [] more = refl
stacks_told-append (Name name ∷ records) more = stacks_told-append records more
stacks_told-append (Row frames weight ∷ records) more = ap (λ stacks. frames ∷ stacks) (stacks_told-append records more)
stacks_told-append (Again row weight ∷ records) more = stacks_told-append records more
stacks_told-append (Close last ∷ records) more = stacks_told-append records more

pub stands_for_after-append : (names stacks : List (List ℕ)) (records more : List RingRecord) → stands_for_after names stacks (records ++ more) ≡ stands_for_after names stacks records ++ stands_for_after (names ++ names_told records) (stacks ++ stacks_told records) more
stands_for_after-append names stacks [] more = cc (append-nil names, append-nil stacks)
stands_for_after-append names stacks (Name name ∷ records) more =
    cc (stands_for_after-append (names ++ name ∷ []) stacks records more, append_assoc names (name ∷ []) (names_told records))
stands_for_after-append names stacks (Row frames weight ∷ records) more =
    cc (stands_for_after-append names (stacks ++ frames ∷ []) records more, append_assoc stacks (frames ∷ []) (stacks_told records))
stands_for_after-append names stacks (Again row weight ∷ records) more = cc (stands_for_after-append names stacks records more)
stands_for_after-append names stacks (Close last ∷ records) more = cc (stands_for_after-append names stacks records more)

-- what a ring's records stand for, with more of them
pub stands_for-append : (records more : List RingRecord) → stands_for (records ++ more) ≡ stands_for records ++ stands_for_after (names_told records) (stacks_told records) more
stands_for-append records more = stands_for_after-append [] [] records more

-- records that follow so many names and rows are well told exactly where their beginning is, and what follows is after its names and rows
pub IsWellToldAfter-front : (names rows : ℕ) (records more : List RingRecord) → IsWellToldAfter names rows (records ++ more) → IsWellToldAfter names rows records
IsWellToldAfter-front names rows [] more well = tt
IsWellToldAfter-front names rows (Name name ∷ records) more well = IsWellToldAfter-front (names + 1) rows records more well
IsWellToldAfter-front names rows (Row frames weight ∷ records) more well = (well.0, IsWellToldAfter-front names (rows + 1) records more well.1)
IsWellToldAfter-front names rows (Again row weight ∷ records) more well = (well.0, IsWellToldAfter-front names rows records more well.1)
IsWellToldAfter-front names rows (Close last ∷ records) more well = IsWellToldAfter-front names rows records more well

pub IsWellToldAfter-back : (names rows : ℕ) (records more : List RingRecord) → IsWellToldAfter names rows (records ++ more) → IsWellToldAfter (names + length (names_told records)) (rows + length (stacks_told records)) more
IsWellToldAfter-back names rows [] more well =
    let n : names ≡ names + 0 = omega arith in
    let r : rows ≡ rows + 0 = omega arith in
    subst (λ k. IsWellToldAfter k (rows + 0) more) n (subst (λ k. IsWellToldAfter names k more) r well)
IsWellToldAfter-back names rows (Name name ∷ records) more well =
    let same : names + 1 + length (names_told records) ≡ names + suc (length (names_told records)) = omega arith in
    subst (λ n. IsWellToldAfter n (rows + length (stacks_told records)) more) same (IsWellToldAfter-back (names + 1) rows records more well)
IsWellToldAfter-back names rows (Row frames weight ∷ records) more well =
    let same : rows + 1 + length (stacks_told records) ≡ rows + suc (length (stacks_told records)) = omega arith in
    subst (λ n. IsWellToldAfter (names + length (names_told records)) n more) same (IsWellToldAfter-back names (rows + 1) records more well.1)
IsWellToldAfter-back names rows (Again row weight ∷ records) more well = IsWellToldAfter-back names rows records more well.1
IsWellToldAfter-back names rows (Close last ∷ records) more well = IsWellToldAfter-back names rows records more well

pub IsWellToldAfter-append : (names rows : ℕ) (records more : List RingRecord) → IsWellToldAfter names rows records → IsWellToldAfter (names + length (names_told records)) (rows + length (stacks_told records)) more → IsWellToldAfter names rows (records ++ more)
IsWellToldAfter-append names rows [] more front back =
    let n : names + 0 ≡ names = omega arith in
    let r : rows + 0 ≡ rows = omega arith in
    subst (λ k. IsWellToldAfter k rows more) n (subst (λ k. IsWellToldAfter (names + 0) k more) r back)
IsWellToldAfter-append names rows (Name name ∷ records) more front back =
    let same : names + suc (length (names_told records)) ≡ names + 1 + length (names_told records) = omega arith in
    IsWellToldAfter-append (names + 1) rows records more front (subst (λ n. IsWellToldAfter n (rows + length (stacks_told records)) more) same back)
IsWellToldAfter-append names rows (Row frames weight ∷ records) more front back =
    let same : rows + suc (length (stacks_told records)) ≡ rows + 1 + length (stacks_told records) = omega arith in
    (front.0, IsWellToldAfter-append names (rows + 1) records more front.1 (subst (λ n. IsWellToldAfter (names + length (names_told records)) n more) same back))
IsWellToldAfter-append names rows (Again row weight ∷ records) more front back = (front.0, IsWellToldAfter-append names rows records more front.1 back)
IsWellToldAfter-append names rows (Close last ∷ records) more front back = IsWellToldAfter-append names rows records more front back

pub IsWellTold-front : (records more : List RingRecord) → IsWellTold (records ++ more) → IsWellTold records
IsWellTold-front records more well = IsWellToldAfter-front 0 0 records more well

pub IsWellTold-back : (records more : List RingRecord) → IsWellTold (records ++ more) → IsWellToldAfter (length (names_told records)) (length (stacks_told records)) more
IsWellTold-back records more well =
    let n : 0 + length (names_told records) ≡ length (names_told records) = omega arith in
    let r : 0 + length (stacks_told records) ≡ length (stacks_told records) = omega arith in
    subst (λ k. IsWellToldAfter k (length (stacks_told records)) more) n (subst (λ k. IsWellToldAfter (0 + length (names_told records)) k more) r (IsWellToldAfter-back 0 0 records more well))

pub IsWellTold-append : (records more : List RingRecord) → IsWellTold records → IsWellToldAfter (length (names_told records)) (length (stacks_told records)) more → IsWellTold (records ++ more)
IsWellTold-append records more front back =
    let n : length (names_told records) ≡ 0 + length (names_told records) = omega arith in
    let r : length (stacks_told records) ≡ 0 + length (stacks_told records) = omega arith in
    IsWellToldAfter-append 0 0 records more front (subst (λ k. IsWellToldAfter k (0 + length (stacks_told records)) more) n (subst (λ k. IsWellToldAfter (length (names_told records)) k more) r back))

-- numbers of names that stand in the beginning of a list of names
pub names_at-append : (names more : List (List ℕ)) (numbers : List ℕ) → All (λ number. number < length names) numbers → names_at (names ++ more) numbers ≡ names_at names numbers
names_at-append names more [] within = refl
names_at-append names more (number ∷ numbers) within =
    let here : slice_index_or (names ++ more) number [] ≡ slice_index_or names number [] = get_or_append_left names more [] number (within 0 number (omega arith)) in
    let rest : names_at (names ++ more) numbers ≡ names_at names numbers = names_at-append names more numbers (λ k d l. within (suc k) d (omega arith)) in
    ap (λ name. name ∷ names_at (names ++ more) numbers) here ∙ ap (λ tail. slice_index_or names number [] ∷ tail) rest

-- each number of a stack has a name
abbrev AreNumbered : List (List ℕ) → List ℕ → Type 0
AreNumbered names stack = All (λ number. number < length names) stack

numbered-more : (names : List (List ℕ)) (name stack : List ℕ) → AreNumbered names stack → AreNumbered (names ++ name ∷ []) stack
numbered-more names name stack h =
    All-weaker (λ number. number < length names) (λ number. number < length (names ++ name ∷ [])) (λ n l. omega (arith, l, length-append names (name ∷ []))) stack h

-- well told records that follow names and stacks are written with all of them, for what a number stands for does not change
pub stands_for_after-written : (names stacks : List (List ℕ)) (records : List RingRecord) → All (AreNumbered names) stacks → IsWellToldAfter (length names) (length stacks) records → stands_for_after names stacks records ≡ written (names ++ names_told records) (stacks ++ stacks_told records) records
stands_for_after-written names stacks [] known well = refl
stands_for_after-written names stacks (Name name ∷ records) known well =
    let more : length names + 1 ≡ length (names ++ name ∷ []) = sym (length-append names (name ∷ [])) in
    let known' = All-weaker (AreNumbered names) (AreNumbered (names ++ name ∷ [])) (numbered-more names name) stacks known in
    stands_for_after-written (names ++ name ∷ []) stacks records known' (subst (λ n. IsWellToldAfter n (length stacks) records) more well)
    ∙ ap (λ all. written all (stacks ++ stacks_told records) records) (append_assoc names (name ∷ []) (names_told records))
stands_for_after-written names stacks (Row frames weight ∷ records) known well =
    let more : length stacks + 1 ≡ length (stacks ++ frames ∷ []) = sym (length-append stacks (frames ∷ [])) in
    let rest = stands_for_after-written names (stacks ++ frames ∷ []) records (All-push (AreNumbered names) stacks frames known well.0) (subst (λ n. IsWellToldAfter (length names) n records) more well.1) in
    let all : names_at names frames ≡ names_at (names ++ names_told records) frames = sym (names_at-append names (names_told records) frames well.0) in
    ap (λ stack. item.Sample (record { stack = stack; weight = weight }) ∷ stands_for_after names (stacks ++ frames ∷ []) records) all
    ∙ ap (λ items. sample_item (names ++ names_told records) frames weight ∷ items)
    (rest ∙ ap (λ all. written (names ++ names_told records) all records) (append_assoc stacks (frames ∷ []) (stacks_told records)))
stands_for_after-written names stacks (Again row weight ∷ records) known well =
    let stack : stack_at (stacks ++ stacks_told records) row ≡ stack_at stacks row = get_or_append_left stacks (stacks_told records) [] row well.0 in
    cc (stands_for_after-written names stacks records known well.1, stack, names_at-append names (names_told records) (stack_at stacks row) (known row [] well.0))
stands_for_after-written names stacks (Close last ∷ records) known well = cc (stands_for_after-written names stacks records known well)

pub stands_for-written : (records : List RingRecord) → IsWellTold records → stands_for records ≡ written (names_told records) (stacks_told records) records
stands_for-written records well = stands_for_after-written [] [] records (λ k d l. absurd (omega (arith, l))) well
