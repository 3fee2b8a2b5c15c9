-- The texts of the page, as tools/explorer-page/run makes them of examples/explorer.
use Rattle.std.specs.Prelude.{ℕ, List, ◌++◌, map}
use Rattle.explorer_page.specs.Lines.{lines_text}
use Rattle.explorer_page.specs.declared.opening.TheConstants.{OPENING_1, OPENING_2, OPENING_3}
use Rattle.explorer_page.specs.declared.disk.TheConstants.{DISK_1, DISK_2, DISK_3, DISK_4, DISK_5, DISK_6}
use Rattle.explorer_page.specs.declared.page.TheConstants.{PAGE_1, PAGE_2, PAGE_3, PAGE_4, PAGE_5}
use Rattle.explorer_page.specs.declared.ending.TheConstants.{ENDING_1, ENDING_2, ENDING_3, ENDING_4, ENDING_5}

unfoldable pub opening_1 : List ℕ
opening_1 = lines_text (map (λ line. line.now) OPENING_1.now)

unfoldable pub opening_2 : List ℕ
opening_2 = lines_text (map (λ line. line.now) OPENING_2.now)

unfoldable pub opening_3 : List ℕ
opening_3 = lines_text (map (λ line. line.now) OPENING_3.now)

unfoldable pub opening_text : List ℕ
opening_text = opening_1 ++ opening_2 ++ opening_3

unfoldable pub disk_1 : List ℕ
disk_1 = lines_text (map (λ line. line.now) DISK_1.now)

unfoldable pub disk_2 : List ℕ
disk_2 = lines_text (map (λ line. line.now) DISK_2.now)

unfoldable pub disk_3 : List ℕ
disk_3 = lines_text (map (λ line. line.now) DISK_3.now)

unfoldable pub disk_4 : List ℕ
disk_4 = lines_text (map (λ line. line.now) DISK_4.now)

unfoldable pub disk_5 : List ℕ
disk_5 = lines_text (map (λ line. line.now) DISK_5.now)

unfoldable pub disk_6 : List ℕ
disk_6 = lines_text (map (λ line. line.now) DISK_6.now)

unfoldable pub disk_text : List ℕ
disk_text = disk_1 ++ disk_2 ++ disk_3 ++ disk_4 ++ disk_5 ++ disk_6

unfoldable pub page_1 : List ℕ
page_1 = lines_text (map (λ line. line.now) PAGE_1.now)

unfoldable pub page_2 : List ℕ
page_2 = lines_text (map (λ line. line.now) PAGE_2.now)

unfoldable pub page_3 : List ℕ
page_3 = lines_text (map (λ line. line.now) PAGE_3.now)

unfoldable pub page_4 : List ℕ
page_4 = lines_text (map (λ line. line.now) PAGE_4.now)

unfoldable pub page_5 : List ℕ
page_5 = lines_text (map (λ line. line.now) PAGE_5.now)

unfoldable pub page_text : List ℕ
page_text = page_1 ++ page_2 ++ page_3 ++ page_4 ++ page_5

unfoldable pub ending_1 : List ℕ
ending_1 = lines_text (map (λ line. line.now) ENDING_1.now)

unfoldable pub ending_2 : List ℕ
ending_2 = lines_text (map (λ line. line.now) ENDING_2.now)

unfoldable pub ending_3 : List ℕ
ending_3 = lines_text (map (λ line. line.now) ENDING_3.now)

unfoldable pub ending_4 : List ℕ
ending_4 = lines_text (map (λ line. line.now) ENDING_4.now)

unfoldable pub ending_5 : List ℕ
ending_5 = lines_text (map (λ line. line.now) ENDING_5.now)

unfoldable pub ending_text : List ℕ
ending_text = ending_1 ++ ending_2 ++ ending_3 ++ ending_4 ++ ending_5
