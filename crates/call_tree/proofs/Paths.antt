-- The paths of nodes.
use Rattle.std.proofs.Common.{◌≡◌, ℕ, ◌+◌, ◌<◌, ◌≤◌, List, [], ◌∷◌, ◌++◌, length, get_or, refl, sym, ap, ◌∙◌, arith, suc, zero}
use Rattle.std.proofs.lemmas.List.{length-append, get_or_append_left}
use Rattle.std.proofs.Math.Seq.{get_or-append_seam}
use Rattle.call_tree.specs.declared.links.Link.{Link}
use Rattle.call_tree.specs.checked.Nodes.{paths_after, paths_of, path_of}

abbrev pub child_path : List (List ℕ) → Link → List ℕ
child_path paths x = get_or paths x.parent [] ++ x.frame ∷ []

paths_after_push : (paths : List (List ℕ)) (links : List Link) (x : Link)
    → paths_after paths (links ++ x ∷ []) ≡ paths_after paths links ++ child_path (paths_after paths links) x ∷ []
paths_after_push paths [] x = refl
paths_after_push paths (y ∷ links) x = paths_after_push (paths ++ child_path paths y ∷ []) links x

length-paths_after : (paths : List (List ℕ)) (links : List Link) → length (paths_after paths links) ≡ length paths + length links
length-paths_after paths [] = omega arith
length-paths_after paths (y ∷ links) =
    omega (arith, length-paths_after (paths ++ child_path paths y ∷ []) links, length-append paths (child_path paths y ∷ []))

paths_after_keeps : (paths : List (List ℕ)) (links : List Link) (i : ℕ) → i < length paths → get_or (paths_after paths links) i [] ≡ get_or paths i []
paths_after_keeps paths [] i lt = refl
paths_after_keeps paths (y ∷ links) i lt =
    paths_after_keeps (paths ++ child_path paths y ∷ []) links i (omega (arith, length-append paths (child_path paths y ∷ [])))
    ∙ get_or_append_left paths (child_path paths y ∷ []) [] i lt

path_at_link : (paths : List (List ℕ)) (links : List Link) (i n : ℕ) (d : Link) → n ≡ length paths + i → i < length links → (get_or links i d).parent < n
    → get_or (paths_after paths links) n [] ≡ child_path (paths_after paths links) (get_or links i d)
path_at_link paths [] i n d is lt before = absurd (omega arith)
path_at_link paths (y ∷ links) zero n d is lt before =
    let c = child_path paths y in
    let within : n < length (paths ++ c ∷ []) = omega (arith, length-append paths (c ∷ [])) in
    let here : n ≡ length paths = omega arith in
    let parent : y.parent < length paths = omega arith in
    paths_after_keeps (paths ++ c ∷ []) links n within
    ∙ ap (λ m. get_or (paths ++ c ∷ []) m []) here
    ∙ get_or-append_seam paths c [] []
    ∙ ap (λ p. p ++ y.frame ∷ []) (sym (paths_after_keeps (paths ++ c ∷ []) links y.parent (omega (arith, length-append paths (c ∷ []))) ∙ get_or_append_left paths (c ∷ []) [] y.parent parent))
path_at_link paths (y ∷ links) (suc i) n d is lt before =
    path_at_link (paths ++ child_path paths y ∷ []) links i n d (omega (arith, length-append paths (child_path paths y ∷ []))) (omega arith) before

pub paths_of_push : (links : List Link) (x : Link) → paths_of (links ++ x ∷ []) ≡ paths_of links ++ (path_of links x.parent ++ x.frame ∷ []) ∷ []
unfolding paths_of
paths_of_push links x = paths_after_push ([] ∷ []) links x

pub length-paths_of : (links : List Link) → length (paths_of links) ≡ length links + 1
unfolding paths_of
length-paths_of links = omega (arith, length-paths_after ([] ∷ []) links)

pub path_of_root : (links : List Link) → path_of links 0 ≡ []
unfolding paths_of
path_of_root links = paths_after_keeps ([] ∷ []) links 0 (omega arith)

pub path_of_child : (links : List Link) (i : ℕ) (d : Link) → i < length links → (get_or links i d).parent ≤ i
    → path_of links (i + 1) ≡ path_of links (get_or links i d).parent ++ (get_or links i d).frame ∷ []
unfolding paths_of
path_of_child links i d lt before = path_at_link ([] ∷ []) links i (i + 1) d (omega arith) lt (omega arith)

-- a new link leaves the paths of the nodes before it
pub path_of_kept : (links : List Link) (x : Link) (i : ℕ) → i < length links + 1 → path_of (links ++ x ∷ []) i ≡ path_of links i
path_of_kept links x i lt =
    ap (λ ps. get_or ps i []) (paths_of_push links x) ∙ get_or_append_left (paths_of links) _ [] i (omega (arith, length-paths_of links))

pub path_of_last : (links : List Link) (x : Link) → path_of (links ++ x ∷ []) (length links + 1) ≡ path_of links x.parent ++ x.frame ∷ []
path_of_last links x =
    ap (λ ps. get_or ps (length links + 1) []) (paths_of_push links x)
    ∙ ap (λ n. get_or (paths_of links ++ (path_of links x.parent ++ x.frame ∷ []) ∷ []) n []) (sym (length-paths_of links))
    ∙ get_or-append_seam (paths_of links) _ [] []
