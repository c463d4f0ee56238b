-- Bodies, and the moments that they name.
use Rattle.std.proofs.Common.{◌≡◌, refl}
use Rattle.std.specs.Prelude.{codes, [], ◌∷◌, Some, None}
use Rattle.jiff_core.specs.Calendar.{days_from_civil, day_count, days_of_years, days_of_months}
use Rattle.kit.specs.Moments.{last_moment}
use Rattle.mail_date.specs.Moment.{moment}
use Rattle.mail_date.specs.Words.{words}

words_between_commas : words (codes ", a,b\t(c) ,,d") ≡ codes "a" ∷ codes "b" ∷ codes "d" ∷ []
words_between_commas = refl

words_round_comments : words (codes "a(b(c)d)e(\\)f)g") ≡ codes "a" ∷ codes "e" ∷ codes "g" ∷ []
words_round_comments = refl

words_with_stray_marks : words (codes "a)b \\(c") ≡ codes "a)b" ∷ codes "\\" ∷ []
words_with_stray_marks = refl

with_zone : moment (codes "Wed, 01 May 2024 12:00:00 +0200") ≡ Some 1714557600
unfolding moment days_from_civil day_count days_of_years days_of_months
with_zone = refl

year_97 : moment (codes "21 Nov 97 09:55:06 -0600") ≡ Some 880127706
unfolding moment days_from_civil day_count days_of_years days_of_months
year_97 = refl

no_day_31_in_april : moment (codes "31 Apr 2024 10:00 GMT") ≡ None
unfolding moment days_from_civil day_count days_of_years days_of_months
no_day_31_in_april = refl

no_weekday_no_seconds : moment (codes "1 May 2024 10:00 GMT") ≡ Some 1714557600
unfolding moment days_from_civil day_count days_of_years days_of_months
no_weekday_no_seconds = refl

no_zone : moment (codes "1 May 2024 10:00") ≡ Some 1714557600
unfolding moment days_from_civil day_count days_of_years days_of_months
no_zone = refl

comma_after_the_day : moment (codes "1, May 2024 10:00 UT") ≡ Some 1714557600
unfolding moment days_from_civil day_count days_of_years days_of_months
comma_after_the_day = refl

letters_of_either_case : moment (codes "wed 1 mAY 2024 6:0 edt") ≡ Some 1714557600
unfolding moment days_from_civil day_count days_of_years days_of_months
letters_of_either_case = refl

words_after : moment (codes "1 May 2024 10:00 +0000 (CEST) and more") ≡ Some 1714557600
unfolding moment days_from_civil day_count days_of_years days_of_months
words_after = refl

zone_that_breaks_its_form : moment (codes "1 May 2024 10:00 +0260") ≡ Some 1714557600
unfolding moment days_from_civil day_count days_of_years days_of_months
zone_that_breaks_its_form = refl

zone_of_three_digits : moment (codes "1 May 2024 10:00 -200") ≡ Some 1714557600
unfolding moment days_from_civil day_count days_of_years days_of_months
zone_of_three_digits = refl

military_zone : moment (codes "1 May 2024 10:00 Z") ≡ Some 1714557600
unfolding moment days_from_civil day_count days_of_years days_of_months
military_zone = refl

zone_of_many_hours : moment (codes "5 May 2024 13:00 +9900") ≡ Some 1714557600
unfolding moment days_from_civil day_count days_of_years days_of_months
zone_of_many_hours = refl

east_standard : moment (codes "1 May 2024 10:00 EST") ≡ Some 1714575600
unfolding moment days_from_civil day_count days_of_years days_of_months
east_standard = refl

central_daylight : moment (codes "1 May 2024 10:00 CDT") ≡ Some 1714575600
unfolding moment days_from_civil day_count days_of_years days_of_months
central_daylight = refl

central_standard : moment (codes "1 May 2024 10:00 CST") ≡ Some 1714579200
unfolding moment days_from_civil day_count days_of_years days_of_months
central_standard = refl

mountain_daylight : moment (codes "1 May 2024 10:00 MDT") ≡ Some 1714579200
unfolding moment days_from_civil day_count days_of_years days_of_months
mountain_daylight = refl

mountain_standard : moment (codes "1 May 2024 10:00 MST") ≡ Some 1714582800
unfolding moment days_from_civil day_count days_of_years days_of_months
mountain_standard = refl

pacific_daylight : moment (codes "1 May 2024 10:00 PDT") ≡ Some 1714582800
unfolding moment days_from_civil day_count days_of_years days_of_months
pacific_daylight = refl

pacific_standard : moment (codes "1 May 2024 10:00 PST") ≡ Some 1714586400
unfolding moment days_from_civil day_count days_of_years days_of_months
pacific_standard = refl

comment_is_white : moment (codes "1(x)May(y)2024(z)10:00") ≡ Some 1714557600
unfolding moment days_from_civil day_count days_of_years days_of_months
comment_is_white = refl

comment_in_a_comment : moment (codes "(a(b)c) 1 May 2024 10:00") ≡ Some 1714557600
unfolding moment days_from_civil day_count days_of_years days_of_months
comment_in_a_comment = refl

pair_in_a_comment : moment (codes "(a\\)b) 1 May 2024 10:00") ≡ Some 1714557600
unfolding moment days_from_civil day_count days_of_years days_of_months
pair_in_a_comment = refl

pair_of_backslashes : moment (codes "(a\\\\) 1 May 2024 10:00") ≡ Some 1714557600
unfolding moment days_from_civil day_count days_of_years days_of_months
pair_of_backslashes = refl

comment_that_is_open : moment (codes "1 May 2024 10:00 (+0200") ≡ Some 1714557600
unfolding moment days_from_civil day_count days_of_years days_of_months
comment_that_is_open = refl

comment_cuts_a_word : moment (codes "1 May 20(x)24 10:00") ≡ None
unfolding moment days_from_civil day_count days_of_years days_of_months
comment_cuts_a_word = refl

year_49 : moment (codes "1 May 49 10:00") ≡ Some 2503476000
unfolding moment days_from_civil day_count days_of_years days_of_months
year_49 = refl

year_50 : moment (codes "1 May 50 10:00") ≡ None
unfolding moment days_from_civil day_count days_of_years days_of_months
year_50 = refl

year_of_three_digits : moment (codes "1 May 101 10:00") ≡ Some 988711200
unfolding moment days_from_civil day_count days_of_years days_of_months
year_of_three_digits = refl

year_of_three_small_digits : moment (codes "1 May 049 10:00") ≡ None
unfolding moment days_from_civil day_count days_of_years days_of_months
year_of_three_small_digits = refl

year_of_five_digits : moment (codes "1 May 02024 10:00") ≡ None
unfolding moment days_from_civil day_count days_of_years days_of_months
year_of_five_digits = refl

leap_day_of_a_century : moment (codes "29 Feb 2000 0:0") ≡ Some 951782400
unfolding moment days_from_civil day_count days_of_years days_of_months
leap_day_of_a_century = refl

no_leap_day_in_1900 : moment (codes "29 Feb 1900 0:0") ≡ None
unfolding moment days_from_civil day_count days_of_years days_of_months
no_leap_day_in_1900 = refl

no_leap_day_in_2100 : moment (codes "29 Feb 2100 0:0") ≡ None
unfolding moment days_from_civil day_count days_of_years days_of_months
no_leap_day_in_2100 = refl

no_day_0 : moment (codes "0 May 2024 10:00") ≡ None
unfolding moment days_from_civil day_count days_of_years days_of_months
no_day_0 = refl

day_of_three_digits : moment (codes "001 May 2024 10:00") ≡ None
unfolding moment days_from_civil day_count days_of_years days_of_months
day_of_three_digits = refl

second_60 : moment (codes "1 May 2024 9:59:60") ≡ Some 1714557599
unfolding moment days_from_civil day_count days_of_years days_of_months
second_60 = refl

no_second_61 : moment (codes "1 May 2024 9:59:61") ≡ None
unfolding moment days_from_civil day_count days_of_years days_of_months
no_second_61 = refl

no_minute_60 : moment (codes "1 May 2024 10:60") ≡ None
unfolding moment days_from_civil day_count days_of_years days_of_months
no_minute_60 = refl

no_hour_24 : moment (codes "1 May 2024 24:00") ≡ None
unfolding moment days_from_civil day_count days_of_years days_of_months
no_hour_24 = refl

no_fourth_part : moment (codes "1 May 2024 1:2:3:4") ≡ None
unfolding moment days_from_civil day_count days_of_years days_of_months
no_fourth_part = refl

no_time : moment (codes "1 May 2024") ≡ None
unfolding moment days_from_civil day_count days_of_years days_of_months
no_time = refl

first_moment : moment (codes "1 Jan 1970 0:0") ≡ Some 0
unfolding moment days_from_civil day_count days_of_years days_of_months
first_moment = refl

before_the_first_by_its_zone : moment (codes "1 Jan 1970 0:59 +0100") ≡ None
unfolding moment days_from_civil day_count days_of_years days_of_months
before_the_first_by_its_zone = refl

first_by_its_zone : moment (codes "31 Dec 1969 23:00 -0100") ≡ Some 0
unfolding moment days_from_civil day_count days_of_years days_of_months
first_by_its_zone = refl

last_moment_of_all : moment (codes "31 Dec 9999 23:59:59") ≡ Some last_moment
unfolding moment days_from_civil day_count days_of_years days_of_months
last_moment_of_all = refl

after_the_last_by_its_zone : moment (codes "31 Dec 9999 23:59:59 -0001") ≡ None
unfolding moment days_from_civil day_count days_of_years days_of_months
after_the_last_by_its_zone = refl

year_0 : moment (codes "31 Dec 0000 23:59:59") ≡ None
unfolding moment days_from_civil day_count days_of_years days_of_months
year_0 = refl

two_weekdays : moment (codes "Wed Wed 1 May 2024 10:00") ≡ None
unfolding moment days_from_civil day_count days_of_years days_of_months
two_weekdays = refl

nothing : moment (codes "") ≡ None
unfolding moment days_from_civil day_count days_of_years days_of_months
nothing = refl
