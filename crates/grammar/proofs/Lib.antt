-- ---- what the lines of a text mean
-- a grammar as words of symbols
pub mod Grammars
-- what a word draws after some passes, and a token from any place
pub mod GrammarLaws
-- where the turns of a word lead
pub mod TurnLaws
-- a word of symbols and its mirror
pub mod MirrorLaws
-- words of bytes met from the other end
pub mod ReversalLaws
-- the tokens' letters
pub mod TokenLaws
-- a pass over a lawful word
pub mod PassLaws
-- what each line has of a text that the tests find fine
pub mod GoodLineLaws
-- a text that the tests find fine is an accepted grammar
pub mod Meaning
-- every stroke that is drawn is short, and of an accepted text has a flavor
pub mod StrokeLaws
-- how many tokens an accepted text has
pub mod CountLaws
-- ---- words of bytes, as the code has them
-- a byte by its range, a reversal place by place, a word that is written
pub mod WordByteLaws
-- a book of words, row by row
pub mod BookLaws
-- one expansion pass, byte by byte
pub mod ExpandLaws
-- passes by the books of a text's lines
pub mod BookPassLaws
-- each contract on words allows one answer and one buffer alone
pub mod WordDetermined
-- ---- the scan
-- rows and fields, by the place of the next LF or space
pub mod CutLaws
-- the lines by the places of their parts
pub mod PlaceLaws
-- the scan of a text, row after row
pub mod ScanLaws
-- ---- the tests
-- the first line at fault
pub mod FirstLaws
-- what the bytes of a word come to
pub mod TallyLaws
-- 13 to 18 of a line
pub mod VerdictLaws
-- 19 of a line
pub mod NetLaws
-- the tests one after the other
pub mod TestOrderLaws
-- what the tests say decides, whatever is asked after them
pub mod DecidedLaws
-- each contract on texts allows one answer alone
pub mod TextDetermined
