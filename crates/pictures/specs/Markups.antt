-- The markup of the pictures, piece by piece.
use Rattle.std.specs.Prelude.{ℕ, List, ◌++◌, codes, decimal}
use Rattle.pictures.specs.declared.markups.Markup.{Markup}

unfoldable pub markup_text : Markup → List ℕ
markup_text Markup.Rect = codes "<rect class='"
markup_text Markup.Label = codes "<text class='"
markup_text Markup.X = codes "' x='"
markup_text Markup.Y = codes "' y='"
markup_text Markup.Width = codes "' width='"
markup_text Markup.Height = codes "' height='"
markup_text Markup.End = codes "'/>"
markup_text Markup.TagEnd = codes "'>"
markup_text Markup.LabelClose = codes "</text>"
markup_text Markup.Lane = codes "<path class='l' d='M0 "
markup_text Markup.Across = codes "H"
markup_text Markup.Step = codes "<g class='q' role='img' tabindex='0'><title>"
markup_text Markup.Field = codes "<g role='img' tabindex='0'><title>"
markup_text Markup.TitleEnd = codes "</title>"
markup_text Markup.FieldEnd = codes "</g>\n"
markup_text Markup.Bracket = codes "<path class='v' d='M"
markup_text Markup.Up = codes " 50V40H"
markup_text Markup.Down = codes "V50'/>"
markup_text Markup.Mark = codes "<path class='j' d='M"
markup_text Markup.MarkEnd = codes "v96'/><text class='j' y='"
markup_text Markup.Line = codes "<tspan x='"
markup_text Markup.LineOpen = codes "' dy='15'>"
markup_text Markup.LineClose = codes "</tspan>"
markup_text Markup.FilesClose = codes "</text></g>\n"
markup_text Markup.Page =
    codes "<!DOCTYPE html>\n<html lang='en'><head><meta charset='utf-8'><title>"
markup_text Markup.Style = codes "</title>\n<style>\n"
markup_text Markup.BodyStyle =
    codes "body{margin:16px;font:14px/1.45 system-ui,'Segoe UI','Liberation Sans',Arial,sans-"
    ++ codes "serif;color:#111;background:#fff}h1{font-size:20px;margin:0 0 4px}p{margin:4px 0 1"
    ++ codes "2px;max-width:75em}.sheet{display:flex;overflow-x:auto;border:1px solid #bbb}svg{d"
    ++ codes "isplay:block;flex:none}.names{position:sticky;left:0;z-index:1;background:#fff;bor"
    ++ codes "der-right:1px solid #bbb}"
markup_text Markup.TextStyle =
    codes "text{font-size:12px;fill:#111}.n,.b,.t,.w,.c,.h,.e,.s,.z,.i,.x,.a,.y,.m,.d{text-an"
    ++ codes "chor:middle}text.n,text.y,text.a,text.d{font-size:11px}text.n{fill:#555}text.c,tex"
    ++ codes "t.h,text.x{fill:#fff}text.c,text.m,text.v,text.r,text.k{font-weight:700}.tip{visib"
    ++ codes "ility:hidden;paint-order:stroke;stroke:#fff3bf;stroke-width:8px;stroke-linejoin:ro"
    ++ codes "und}"
markup_text Markup.BoxStyle =
    codes "rect{rx:3px}rect.b{fill:#dfe8f4;stroke:#6f87a8}rect.t{fill:#f7f3e9;stroke:#bdb49c}"
    ++ codes "rect.w{fill:#a9c8ea;stroke:#4a78ad}rect.c{fill:#0a5c28;stroke:#000;stroke-width:2}"
    ++ codes "rect.h{fill:#2f5f9e;stroke:#1d3d66}rect.e{fill:#c9ced4;stroke:#777}rect.s{fill:#ff"
    ++ codes "f;stroke:#5b2d8c;stroke-width:2}rect.z,rect.i{fill:#fff;stroke:#888;stroke-dasharr"
    ++ codes "ay:4 3}rect.x{fill:#7a1020}rect.a{fill:#ffd861;stroke:#a5821a}rect.q{fill:transpar"
    ++ codes "ent}"
markup_text Markup.BandStyle =
    codes "rect.v{fill:#f1f1f1}path.v{fill:none;stroke:#333;stroke-width:2}path.l{stroke:#ddd"
    ++ codes "}path.j{stroke:#333}.k0,.k1,.k2,.k3,.k4,.k5{stroke:#444}.k0{fill:#fff}.k1{fill:#b9"
    ++ codes "dcb0}.k2{fill:#fbe3a6}.k3{fill:#a8c8e8}.k4{fill:#f3c9b5}.k5{fill:url(#or)}g:focus{"
    ++ codes "outline:none}g:focus>rect{stroke:#c00;stroke-width:3px}g:focus>.tip{visibility:vis"
    ++ codes "ible}"
markup_text Markup.CellStyle =
    codes ".g{fill:#e3c4ec;stroke:#7a3d8c}.k6{fill:#d9d3ee;stroke:#444}.key b{display:inline-"
    ++ codes "block;min-width:1.2em;text-align:center;border:1px solid #555;margin:0 2px 0 8px}"
markup_text Markup.Heading = codes "</style></head>\n<body><h1>"
markup_text Markup.HeadingEnd = codes "</h1>\n"
markup_text Markup.Intro =
    codes "<p>Each column is a step, each lane a process. A group of operations is written in"
    ++ codes " four parts: its blocks to the log, the header (COMMIT), the blocks to their homes"
    ++ codes ", the empty header (clear). A stop keeps exactly the groups whose header was writt"
    ++ codes "en: the row of bands changes there. zzz is a step that waits. Point at a field, or"
    ++ codes " go to it with the tab key, to read what it is.</p>\n"
markup_text Markup.Names = codes "<div class='sheet'><svg class='names' width='136' height='"
markup_text Markup.NamesEnd = codes "</svg>\n"
markup_text Markup.Sheet = codes "<svg width='"
markup_text Markup.SheetLabel = codes "' role='group' aria-label='the steps, from left to right'>"
markup_text Markup.Hatch =
    codes "<defs><pattern id='or' width='8' height='8' patternUnits='userSpaceOnUse' patternT"
    ++ codes "ransform='rotate(45)'><rect width='8' height='8' fill='#fff'/><rect width='3' heig"
    ++ codes "ht='8' fill='#bbb'/></pattern></defs>\n"
markup_text Markup.ToldOpen =
    codes "</svg></div>\n<details><summary>The steps as text</summary><pre>\n"
markup_text Markup.CellsIntro =
    codes "<p>Each square is a block, 64 in a row, as the image is once its log is copied hom"
    ++ codes "e: the number before a row is that of its first block.</p>\n<p class='key'><b>b</b"
    ++ codes ">boot<b>s</b>superblock<b>l</b>log<b>i</b>inodes<b>m</b>bitmap<b>a</b>addresses<b>"
    ++ codes "0</b>to<b>9</b>data, by the last digit of the file's number<b>.</b>free<b>*</b>a b"
    ++ codes "lock whose newer content is in the log. Point at a square, or go to it with the ta"
    ++ codes "b key, to read whose it is.</p>\n"
markup_text Markup.CellsOpen = codes "<div class='sheet'><svg width='1156' height='"
markup_text Markup.CellsLabel =
    codes "' role='group' aria-label='the blocks, 64 in a row'><defs><pattern id='or' width='"
    ++ codes "8' height='8' patternUnits='userSpaceOnUse' patternTransform='rotate(45)'><rect wi"
    ++ codes "dth='8' height='8' fill='#fff'/><rect width='3' height='8' fill='#bbb'/></pattern>"
    ++ codes "</defs>\n"
markup_text Markup.CellsTold =
    codes "</svg></div>\n<details><summary>The blocks as text</summary><pre>\n"
markup_text Markup.StopsIntro =
    codes "<p>Each column is a stop: end for the whole run, the number of the write that isn'"
    ++ codes "t made, or s and that of the sync that fails. Each green square is an image that t"
    ++ codes "he stop may leave, one for each choice of the writes that are held, and passed: on"
    ++ codes "ce recovered it has the files of the committed groups. A red square is the first t"
    ++ codes "hat hasn't. Point at a square, or go to it with the tab key, to read which it is.<"
    ++ codes "/p>\n"
markup_text Markup.StopsOpen = codes "<div class='sheet'><svg width='"
markup_text Markup.StopsLabel = codes "' role='group' aria-label='the stops, from left to right'>\n"
markup_text Markup.StopsTold =
    codes "</svg></div>\n<details><summary>The stops as text</summary><pre>\n"
markup_text Markup.PageEnd = codes "</pre></details>\n</body></html>\n"

-- a piece and a number
unfoldable pub attribute_text : Markup → ℕ → List ℕ
attribute_text markup n = markup_text markup ++ decimal n
